use Rattle.std.proofs.Common.{◌≡◌}
use Rattle.spe_core.specs.Enabled.{another_has, holds}
use Rattle.spe_core.proofs.lives.Lives.another_holds.Given as goal

abbrev pub invariant-loop-other : goal.invariant-loop-other
invariant-loop-other l = another_has l.id (holds l.lock) l.other-iterator ≡ another_has l.id (holds l.lock) l.self
