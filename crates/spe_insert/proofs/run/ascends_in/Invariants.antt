use Rattle.std.specs.Prelude.{◌≡◌, length}
use Rattle.spe_model.specs.Page.{above, ascends}
use Rattle.spe_insert.proofs.run.ascends_in.Given as goal

abbrev pub invariant-loop-left : goal.invariant-loop-left
invariant-loop-left l = above l.key l.left ≡ ascends l.fn.cells

abbrev pub decreases-loop-left : goal.decreases-loop-left
decreases-loop-left l = length l.left
