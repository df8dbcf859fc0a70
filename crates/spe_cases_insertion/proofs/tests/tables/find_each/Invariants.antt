use Rattle.std.proofs.Common.{◌≡◌, None}
use Rattle.spe_cases_insertion.proofs.tests.tables.find_each.Given as goal

abbrev pub invariant-loop-turn : goal.invariant-loop-turn
invariant-loop-turn g l = g.S.Pages.refusal l.space ≡ None
