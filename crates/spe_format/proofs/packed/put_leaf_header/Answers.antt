use Rattle.std.proofs.Common.{◌∷◌, [], ◌+◌, arith, refl, sym}
use Rattle.byteorder.specs.Endian.{big_bytes}
use Rattle.spe_format.proofs.SpliceLemmas.{five_parts, splice-none}
use Rattle.spe_format.proofs.packed.put_leaf_header.Goals as goal

pub returns : goal.returns
returns c =
    let at = c.args.at in
    let last = c.put_bytes-2.new.page in
    five_parts at (at + 3) (at + 5) (at + 7) (at + 8) (13 ∷ 0 ∷ 0 ∷ []) (big_bytes 2 c.args.count) (big_bytes 2 c.args.low) (0 ∷ []) [] c.args.page.now _ _ _ last last
    (omega arith) (omega arith) (omega arith) (omega arith) (omega (arith, c.requires)) c.put_bytes.ensures c.put_u16.ensures c.put_u16-2.ensures c.put_bytes-2.ensures
    (sym (splice-none (at + 8) last))
