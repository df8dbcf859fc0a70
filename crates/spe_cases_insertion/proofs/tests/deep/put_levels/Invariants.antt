use Rattle.std.proofs.Common.{◌≡◌, None}
use Rattle.spe_space.specs.View.{map_refusal}
use Rattle.spe_cases_insertion.proofs.tests.deep.put_levels.Given as goal

abbrev pub invariant-loop-level : goal.invariant-loop-level
invariant-loop-level l = map_refusal l.space ≡ None
