use Rattle.std.proofs.Common.{◌≡◌, ◌+◌, ◌≤◌, length}
use Rattle.spe_model.specs.declared.page.Kind.TheVariants.{TableLeaf}
use Rattle.spe_cut.specs.Parts.{need}
use Rattle.spe_delete.proofs.leaves.room_behind.Given as goal

abbrev pub invariant-cells : goal.invariant-cells
invariant-cells l = record {
  low : l.behind ≤ l.fn.room;
  counted : l.behind + need TableLeaf l.fn.cells ≡ l.fn.room + need TableLeaf l.left;
}

abbrev pub decreases-cells : goal.decreases-cells
decreases-cells l = length l.left
