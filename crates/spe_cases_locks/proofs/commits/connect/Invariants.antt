use Rattle.std.proofs.Common.{◌≡◌, length}
use Rattle.std.specs.Prelude.{All}
use Rattle.spe_cases_locks.proofs.commits.connect.Given as goal

abbrev pub invariant-loop-number : goal.invariant-loop-number
invariant-loop-number l = record {
  store : l.store.table ≡ l.slots.table;
  maker : l.maker.table ≡ l.slots.table;
  seated : All (λ s. s.table ≡ l.slots.table) l.seats.items;
  drawn : l.maker.part.sessions ≡ l.number;
  all : length l.seats.items ≡ l.number;
  commits : length l.store.part.commits ≡ l.number;
  faults : l.store.part.faults ≡ 0;
}
