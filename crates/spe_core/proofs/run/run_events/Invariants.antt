use Rattle.std.proofs.Common.{length}
use Rattle.spe_core.proofs.RunLemmas.{AreRun}
use Rattle.spe_core.proofs.run.run_events.Given as goal

abbrev pub invariant-loop-left : goal.invariant-loop-left
invariant-loop-left l = AreRun l.fn.core l.core l.fn.events l.left l.done

abbrev pub decreases-loop-left : goal.decreases-loop-left
decreases-loop-left l = length l.left
