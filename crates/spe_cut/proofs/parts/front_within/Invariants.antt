use Rattle.std.proofs.Common.{length}
use Rattle.spe_cut.proofs.LoopLemmas.{FrontTaken}
use Rattle.spe_cut.proofs.parts.front_within.Given as goal

abbrev pub invariant-loop-left : goal.invariant-loop-left
invariant-loop-left l = FrontTaken l.fn.kind l.fn.most l.count l.taken l.left l.initial.left

abbrev pub decreases-loop-left : goal.decreases-loop-left
decreases-loop-left l = length l.left
