use Rattle.std.proofs.Common.{◌≡◌, length}
use Rattle.spe_convert.specs.Reading.{are_ascending}
use Rattle.spe_convert.proofs.free.misplaced.Given as goal

abbrev pub invariant-loop-left : goal.invariant-loop-left
invariant-loop-left l = are_ascending l.below l.most l.left ≡ are_ascending 1 l.most l.fn.pages

abbrev pub decreases-loop-left : goal.decreases-loop-left
decreases-loop-left l = length l.left
