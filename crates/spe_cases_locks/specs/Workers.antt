-- The table at which a worker has its seat.
use Rattle.std.specs.Prelude.{◌≡◌}
use Rattle.spe_slots.specs.Seats.{LockTable}
use Rattle.spe_cases_locks.specs.declared.worker.Worker.{Worker}
use Rattle.spe_cases_locks.specs.declared.worker.Worker.TheVariants.{Id, Store}

abbrev pub IsAtTable : LockTable → Worker → Type 0
IsAtTable slots (Id seat) = seat.table ≡ slots.table
IsAtTable slots (Store store) = store.table ≡ slots.table
