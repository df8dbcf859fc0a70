use Rattle.std.proofs.Common.{◌≡◌}
use Rattle.spe_cases_locks.proofs.race.look_at_all.Given as goal

abbrev pub invariant-loop-page : goal.invariant-loop-page
invariant-loop-page l = l.store.table ≡ l.slots.table
