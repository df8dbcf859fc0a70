use Rattle.std.proofs.Common.{◌≡◌, ◌+◌, length}
use Rattle.spe_cut.specs.Parts.{need}
use Rattle.spe_cut.proofs.parts.need_of.Given as goal

abbrev pub invariant-loop-left : goal.invariant-loop-left
invariant-loop-left l = l.sum + need l.fn.kind l.left ≡ need l.fn.kind l.initial.left

abbrev pub decreases-loop-left : goal.decreases-loop-left
decreases-loop-left l = length l.left
