use Rattle.std.proofs.Common.{◌≡◌, None}
use Rattle.spe_space.specs.View.{map_refusal}
use Rattle.spe_cases_insertion.proofs.tests.lengths.put_each.Given as goal

abbrev pub invariant-loop-bytes : goal.invariant-loop-bytes
invariant-loop-bytes l = map_refusal l.space ≡ None
