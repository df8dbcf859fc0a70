use Rattle.std.proofs.Common.{length}
use Rattle.spe_modify.specs.Removal.{IsRemoving}
use Rattle.spe_modify.proofs.removal.remove_rows.Given as goal

abbrev pub invariant-loop-left : goal.invariant-loop-left
invariant-loop-left g l = IsRemoving g.S.Pages l.fn.space l.space l.root l.fn.rowids l.left

abbrev pub decreases-loop-left : goal.decreases-loop-left
decreases-loop-left g l = length l.left
