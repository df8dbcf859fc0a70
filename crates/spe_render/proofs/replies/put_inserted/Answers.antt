use Rattle.std.proofs.Common.{◌≡◌, ap, arith, of_z, to_z, to_z-of_z, w64}
use Rattle.spe_render.specs.Replies.{inserted_reply}
use Rattle.spe_render.proofs.PassesLemmas.{printed, then}
use Rattle.spe_render.proofs.replies.put_inserted.Goals as goal

pub returns : goal.returns
returns g c =
    let same : to_z w64 (of_z w64 c.args.rowid) ≡ c.args.rowid = grind (arith, to_z-of_z) in
    printed (ap inserted_reply same) (then c.bytes.ensures (then c.signed.ensures c.byte.ensures))
