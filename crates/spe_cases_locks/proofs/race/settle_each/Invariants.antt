use Rattle.std.specs.Prelude.{All}
use Rattle.spe_cases_locks.specs.declared.worker.Worker.{Worker}
use Rattle.spe_cases_locks.specs.Workers.{IsAtTable}
use Rattle.spe_cases_locks.proofs.race.settle_each.Given as goal

abbrev pub invariant-loop-at : goal.invariant-loop-at
invariant-loop-at l = All (λ (w : Worker). IsAtTable l.slots w) l.workers
