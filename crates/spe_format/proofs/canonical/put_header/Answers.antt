use Rattle.std.proofs.Common.{arith, ◌∷◌, [], ◌+◌, ◌-◌, length}
use Rattle.byteorder.specs.Endian.{big_bytes}
use Rattle.spe_format.specs.Canonical.{cells_length, right_bytes, type_byte}
use Rattle.spe_format.proofs.SpliceLemmas.{five_parts}
use Rattle.spe_format.proofs.CanonicalLemmas.{right_end}
use Rattle.spe_format.proofs.canonical.put_header.Goals as goal

pub put_right-requires : goal.put_right-requires
put_right-requires c =
    let end = right_end c.args.cells.now.kind c.args.at c.args.cells.now.right in
    omega (arith, end, c.requires.room, c.put_bytes.auto.page, c.put_u16.auto.page, c.put_u16-2.auto.page, c.put_bytes-2.auto.page)

pub returns-clause-bytes : goal.returns-clause-bytes
returns-clause-bytes c =
    let cells = c.args.cells.now in
    five_parts c.args.at (c.args.at + 3) (c.args.at + 5) (c.args.at + 7) (c.args.at + 8) (type_byte cells.kind ∷ 0 ∷ 0 ∷ []) (big_bytes 2 (length cells.cells))
    (big_bytes 2 (c.args.usable - cells_length cells.kind cells.cells)) (0 ∷ []) (right_bytes cells.kind cells.right) c.args.page.now _ _ _ _ _ (omega arith) (omega arith)
    (omega arith) (omega arith) (omega (arith, c.requires.room)) (rw c.type_byte_of.ensures at c.put_bytes.ensures) (rw c.as_slice.ensures at c.put_u16.ensures)
    (rw c.requires.taken at c.put_u16-2.ensures) c.put_bytes-2.ensures c.put_right.ensures
