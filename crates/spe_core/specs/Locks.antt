-- Locks, in the order of their numbers, each once.
use Rattle.std.specs.Prelude.{ℕ, ◌==◌, not, Bool, List, filter}
use Rattle.std.specs.List.{list_any}
use Rattle.std.specs.Ordering.{nat_cmp}
use Rattle.std.specs.BTreeSet.{insert_key}

abbrev pub Locks : Type 0
Locks = List ℕ

abbrev pub has_lock : ℕ → Locks → Bool
has_lock lock locks = list_any (λ k. k == lock) locks

abbrev pub with_lock : ℕ → Locks → Locks
with_lock lock locks = insert_key nat_cmp locks lock

abbrev pub without_lock : ℕ → Locks → Locks
without_lock lock locks = filter (λ k. not (k == lock)) locks
