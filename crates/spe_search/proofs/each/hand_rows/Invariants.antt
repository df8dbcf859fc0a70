use Rattle.std.proofs.Common.{◌≡◌, ◌-◌, ◌≤◌, Ok, true}
use Rattle.spe_space.specs.Calls.{Reads}
use Rattle.spe_search.specs.Taking.{Hands, TakesUpTo}
use Rattle.spe_search.proofs.each.hand_rows.Given as goal

abbrev pub invariant-loop-index : goal.invariant-loop-index
invariant-loop-index g l = record {
  within : l.index ≤ l.count;
  kept : Reads g.S.Pages l.fn.space l.space;
  refusal : g.S.Pages.refusal l.space ≡ g.S.Pages.refusal l.fn.space;
  handed : Hands g.T.RowTaker l.fn.taker l.fn.out l.taker l.out (Ok true) (TakesUpTo g.S.Pages l.fn.space l.space l.page l.view.cells l.index);
}

abbrev pub decreases-loop-index : goal.decreases-loop-index
decreases-loop-index g l = l.count - l.index
