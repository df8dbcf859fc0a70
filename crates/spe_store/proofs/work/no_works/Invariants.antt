use Rattle.std.proofs.Common.{◌-◌, ◌≤◌, length, All}
use Rattle.spe_store.specs.Work.{IsIdle}
use Rattle.spe_store.proofs.work.no_works.Given as goal

abbrev pub invariant-loop-alloc : goal.invariant-loop-alloc
invariant-loop-alloc l = (length l.works.items ≤ 16) × All IsIdle l.works.items

abbrev pub decreases-loop-alloc : goal.decreases-loop-alloc
decreases-loop-alloc l = 16 - length l.works.items
