use Rattle.std.proofs.Common.{length}
use Rattle.spe_session.proofs.CarriedLemmas.{Going}
use Rattle.spe_session.proofs.carrying.carry_out.Given as goal

abbrev pub invariant-loop-left : goal.invariant-loop-left
invariant-loop-left g l = Going g.S.Pages l.initial.space l.space l.fn.catalog l.fn.kind l.fn.statements l.left l.replies.items

abbrev pub decreases-loop-left : goal.decreases-loop-left
decreases-loop-left g l = length l.left
