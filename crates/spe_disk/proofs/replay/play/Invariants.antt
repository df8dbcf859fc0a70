use Rattle.std.proofs.Common.{◌≡◌, All, length}
use Rattle.spe_model.specs.Trace.{after}
use Rattle.spe_disk.specs.Log.{operations_in, EntryLiesIn}
use Rattle.spe_disk.proofs.replay.play.Given as goal

abbrev pub invariant-loop-left : goal.invariant-loop-left
invariant-loop-left l = record {
  same : after l.files.content (operations_in l.store l.left) ≡ after l.fn.files.content (operations_in l.store l.entries);
  lie : All (EntryLiesIn (length l.store)) l.left;
}

abbrev pub decreases-loop-left : goal.decreases-loop-left
decreases-loop-left l = length l.left
