use Rattle.std.proofs.Common.{◌≡◌, None}
use Rattle.spe_space.specs.View.{map_refusal}
use Rattle.spe_cases_writes.proofs.tests.free_lists.give_each.Given as goal

abbrev pub invariant-loop-list : goal.invariant-loop-list
invariant-loop-list l = map_refusal l.space ≡ None
