use Rattle.std.proofs.Common.{◌≡◌, None}
use Rattle.spe_space.specs.View.{map_refusal}
use Rattle.spe_cases_insertion.proofs.tests.payloads.find_rows.Given as goal

abbrev pub invariant-loop-turn : goal.invariant-loop-turn
invariant-loop-turn l = map_refusal l.space ≡ None
