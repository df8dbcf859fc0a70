use Rattle.std.proofs.Common.{◌≡◌, All, length, take}
use Rattle.spe_disk.specs.Held.{contents}
use Rattle.spe_disk.specs.Log.{files_in, FileLiesIn}
use Rattle.spe_disk.proofs.log.Log.of.Given as goal

abbrev pub invariant-loop-file : goal.invariant-loop-file
invariant-loop-file l = record {
  same : files_in l.store.items l.firsts.items ≡ contents (take l.file-index l.file-items);
  count : length l.firsts.items ≡ l.file-index;
  lie : All (FileLiesIn (length l.store.items)) l.firsts.items;
}
