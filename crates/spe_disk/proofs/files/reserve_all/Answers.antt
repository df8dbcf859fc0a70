use Rattle.std.proofs.Common.{◌≡◌, ◌<◌, ◌+◌, length, arith, rules, length-set, ap, unwrap_or, []}
use Rattle.spe_disk.specs.Held.{HasRoom}
use Rattle.spe_disk.proofs.HeldLemmas.{unchanged, room_more}
use Rattle.spe_disk.proofs.files.reserve_all.Goals as goal

pub returns-then-is_err-clause-same : goal.returns-then-is_err-clause-same
returns-then-is_err-clause-same c = unchanged c.loop-i.list.items _ c.loop-i.i _ c.reserve.new.self c.loop-i.invariant.same c.index_mut-file.ensures.value c.reserve.ensures.bytes

pub loop-i-preserved : goal.loop-i-preserved
loop-i-preserved c =
    let below : c.loop-i.i < length c.loop-i.list.items = search rules in
    let limit : c.reserve.new.self.limit ≡ length (unwrap_or c.index_mut-file.result.now.bytes []) + c.args.room = search rules in
    let same = ap (λ o. length (unwrap_or o [])) c.reserve.ensures.bytes in
    let has : HasRoom c.args.room c.reserve.new.self = omega (arith, limit, same) in
    record {
      count = grind (arith, length-set);
      same = unchanged c.loop-i.list.items _ c.loop-i.i _ c.reserve.new.self c.loop-i.invariant.same c.index_mut-file.ensures.value c.reserve.ensures.bytes;
      reserved = room_more c.loop-i.list.items c.loop-i.i c.args.room c.reserve.new.self below has c.loop-i.invariant.reserved;
    }
