use Rattle.std.proofs.Common.{◌≡◌, None}
use Rattle.spe_space.specs.View.{map_refusal}
use Rattle.spe_cases_insertion.proofs.tests.root.put_rows.Given as goal

abbrev pub invariant-loop-rowid : goal.invariant-loop-rowid
invariant-loop-rowid l = map_refusal l.space ≡ None
