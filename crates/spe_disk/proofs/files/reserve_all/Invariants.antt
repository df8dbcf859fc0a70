use Rattle.std.proofs.Common.{◌≡◌, ◌<◌, ℕ, length, slice_index_or}
use Rattle.spe_disk.specs.Held.{HeldFile, HasRoom, contents}
use Rattle.spe_disk.proofs.files.reserve_all.Given as goal

abbrev pub invariant-loop-i : goal.invariant-loop-i
invariant-loop-i l = record {
  count : length l.list.items ≡ length l.fn.list.items;
  same : contents l.list.items ≡ contents l.fn.list.items;
  reserved : (k : ℕ) (d : HeldFile) → k < l.i → HasRoom l.room (slice_index_or l.list.items k d);
}
