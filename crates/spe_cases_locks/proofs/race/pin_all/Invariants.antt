use Rattle.std.proofs.Common.{◌≡◌}
use Rattle.spe_cases_locks.proofs.race.pin_all.Given as goal

abbrev pub invariant-loop : goal.invariant-loop
invariant-loop l = l.store.table ≡ l.slots.table
