use Rattle.std.proofs.Common.{◌≡◌, ◌++◌, length}
use Rattle.spe_model.specs.Page.{numbers}
use Rattle.spe_format.proofs.legal.numbers_of.Given as goal

abbrev pub invariant-loop-left : goal.invariant-loop-left
invariant-loop-left l = l.found.items ++ numbers l.left ≡ numbers l.fn.bytes

abbrev pub decreases-loop-left : goal.decreases-loop-left
decreases-loop-left l = length l.left
