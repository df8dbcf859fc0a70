use Rattle.std.proofs.Common.{◌≡◌}
use Rattle.spe_model.specs.Assigned.{targets, given_values, assignments, given_to}
use Rattle.spe_slow.proofs.AssignedLemmas.{given_from}
use Rattle.spe_slow.proofs.assigned.given_to.Given as goal

abbrev pub invariant-loop-i : goal.invariant-loop-i
invariant-loop-i l = given_from l.target (targets l.table l.statement) (given_values l.statement) l.i ≡ given_to l.target (assignments l.table l.statement)
