use Rattle.std.proofs.Common.{◌≡◌, ◌+◌, length}
use Rattle.spe_journal.specs.Saved.{saved_in}
use Rattle.spe_stored.specs.Plan.{Leaves}
use Rattle.spe_stored.proofs.plan.restore_records.Given as goal

abbrev pub invariant-loop-left : goal.invariant-loop-left
invariant-loop-left l = record {
  size : l.size ≡ l.page_size + 8;
  leaves : Leaves (saved_in l.nonce l.page_size l.left) (saved_in l.nonce l.page_size l.fn.bytes) l.fn.plan l.plan;
}

abbrev pub decreases-loop-left : goal.decreases-loop-left
decreases-loop-left l = length l.left
