use Rattle.std.proofs.Common.{◌≡◌}
use Rattle.spe_core.specs.Enabled.{another_has}
use Rattle.spe_core.specs.Locks.{has_lock}
use Rattle.spe_core.proofs.lives.Lives.another_writes.Given as goal

abbrev pub invariant-loop-other : goal.invariant-loop-other
invariant-loop-other l = another_has l.id (λ t. has_lock l.lock t.writes) l.other-iterator ≡ another_has l.id (λ t. has_lock l.lock t.writes) l.self
