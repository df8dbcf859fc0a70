use Rattle.std.proofs.Common.{◌≡◌, arith, to_z, of_z, w64, to_z-of_z}
use Rattle.spe_delete.proofs.ChildLemmas.{end_is, inner_is}
use Rattle.spe_delete.proofs.child.without_child.Goals as goal

pub returns-then-place-last : goal.returns-then-place-last
returns-then-place-last c =
    let same : to_z w64 (of_z w64 c.args.rowid) ≡ c.args.rowid = grind (arith, to_z-of_z) in
    inner_is c.args.rowid (to_z w64 (of_z w64 c.args.rowid)) c.args.children.cells c.as_slice.result.now c.as_slice-2.result.now c.take_cell-cells.result.0 c.args.children.right c.place_of-place.result
    same c.as_slice.ensures c.as_slice-2.ensures c.place_of-place.ensures.place c.requires c.if-place-last.true c.take_cell-cells.ensures.rest

pub returns : goal.returns
returns c =
    let same : to_z w64 (of_z w64 c.args.rowid) ≡ c.args.rowid = grind (arith, to_z-of_z) in
    end_is c.args.rowid (to_z w64 (of_z w64 c.args.rowid)) c.args.children.cells c.as_slice.result.now c.as_slice-2.result.now c.take_cell-cells-2.result.0 c.args.children.right c.place_of-place.result c.take_cell-cells-2.result.1
    same c.as_slice.ensures c.as_slice-2.ensures c.place_of-place.ensures.place c.requires c.if-place-last.false c.take_cell-cells-2.ensures.rest c.take_cell-cells-2.ensures.among
