use Rattle.std.proofs.Common.{length}
use Rattle.spe_exec.specs.Bounds.{HasNarrowed}
use Rattle.spe_exec.proofs.bounds.bounds.Given as goal

abbrev pub invariant-loop-left : goal.invariant-loop-left
invariant-loop-left l = HasNarrowed l.fn.conds l.left l.span

abbrev pub decreases-loop-left : goal.decreases-loop-left
decreases-loop-left l = length l.left
