use Rattle.std.proofs.Common.{◌≡◌, ◌+◌, ◌++◌, length, map, All}
use Rattle.spe_journal.specs.Saved.{saved_in}
use Rattle.spe_journal.specs.Text.{record_of, IsWhole}
use Rattle.spe_journal.proofs.text.records_of.Given as goal

abbrev pub invariant-loop-left : goal.invariant-loop-left
invariant-loop-left l = record {
  size : l.size ≡ l.page_size + 8;
  whole : All (IsWhole l.page_size) l.found.items;
  saved : l.found.items ++ map record_of (saved_in l.nonce l.page_size l.left) ≡ map record_of (saved_in l.nonce l.page_size l.fn.bytes);
}

abbrev pub decreases-loop-left : goal.decreases-loop-left
decreases-loop-left l = length l.left
