use Rattle.std.proofs.Common.{◌≡◌, ◌++◌, length}
use Rattle.spe_model.proofs.copies.copy_all.Given as goal

abbrev pub invariant-loop-left : goal.invariant-loop-left
invariant-loop-left g l = l.found.items ++ l.left ≡ l.items

abbrev pub decreases-loop-left : goal.decreases-loop-left
decreases-loop-left g l = length l.left
