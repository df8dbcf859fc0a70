use Rattle.std.proofs.Common.{◌≡◌, length, take}
use Rattle.spe_disk.specs.Held.{contents}
use Rattle.spe_disk.specs.Log.{files_in}
use Rattle.spe_disk.proofs.replay.first_files.Given as goal

abbrev pub invariant-loop-first : goal.invariant-loop-first
invariant-loop-first l = record {
  same : contents l.list.items ≡ files_in l.store (take l.first-index l.firsts);
  count : length l.list.items ≡ l.first-index;
}
