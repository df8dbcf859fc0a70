use Rattle.std.proofs.Common.{length}
use Rattle.spe_exec.specs.Deletes.{IsListing}
use Rattle.spe_exec.proofs.deleting.rowids_of.Given as goal

abbrev pub invariant-loop-left : goal.invariant-loop-left
invariant-loop-left l = IsListing l.fn.pairs l.left l.made.items

abbrev pub decreases-loop-left : goal.decreases-loop-left
decreases-loop-left l = length l.left
