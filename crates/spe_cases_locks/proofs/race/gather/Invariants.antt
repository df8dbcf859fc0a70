use Rattle.std.proofs.Common.{◌≡◌, length}
use Rattle.std.specs.Prelude.{All}
use Rattle.spe_cases_locks.specs.declared.worker.Worker.{Worker}
use Rattle.spe_cases_locks.specs.Workers.{IsAtTable}
use Rattle.spe_slots.specs.Seats.{SeatedId}
use Rattle.spe_cases_locks.proofs.race.gather.Given as goal

abbrev pub invariant-loop-seat : goal.invariant-loop-seat
invariant-loop-seat l = record {
  seated : All (λ (s : SeatedId). s.table ≡ l.slots.table) l.seats.items;
  gathered : All (λ (w : Worker). IsAtTable l.slots w) l.workers.items;
}

abbrev pub decreases-loop-seat : goal.decreases-loop-seat
decreases-loop-seat l = length l.seats.items
