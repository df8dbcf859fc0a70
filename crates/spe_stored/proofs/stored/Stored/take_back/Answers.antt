use Rattle.std.proofs.Common.{arith}
use Rattle.spe_stored.proofs.stored.Stored.take_back.Goals as goal
use Rattle.spe_stored.proofs.stored.Stored.take_back.Goals.{then-kept, else-kept}

pub invariant_of-self : goal.invariant_of-self
invariant_of-self c = λ gone. elim c.if-kept.branch [
  | then-kept w ↦ absurd cc
  | else-kept w ↦ grind arith
]
