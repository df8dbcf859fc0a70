use Rattle.std.proofs.Common.{length}
use Rattle.spe_exec.specs.Rows.{IsShowing}
use Rattle.spe_exec.proofs.select.show.Given as goal

abbrev pub invariant-loop-left : goal.invariant-loop-left
invariant-loop-left l = IsShowing l.table l.all l.names l.fn.pairs l.left l.shown.items

abbrev pub decreases-loop-left : goal.decreases-loop-left
decreases-loop-left l = length l.left
