use Rattle.std.proofs.Common.{◌≡◌, drop}
use Rattle.spe_model.specs.Assigned.{targets, has_twice}
use Rattle.spe_slow.proofs.refused.has_twice.Given as goal

abbrev pub invariant-loop-i : goal.invariant-loop-i
invariant-loop-i l = has_twice (drop l.i (targets l.table l.statement)) ≡ has_twice (targets l.table l.statement)
