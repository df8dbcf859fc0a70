use Rattle.std.proofs.Common.{◌≡◌, ◌-◌, ◌≤◌, ◌<◌, ◌+◌, ◌*◌, Ok, true}
use Rattle.spe_space.specs.Calls.{Reads}
use Rattle.spe_search.specs.Taking.{Hands, TakesChildrenUpTo}
use Rattle.spe_search.proofs.each.+below.Given as goal

abbrev pub decreases-hand_below : goal.decreases-hand_below
decreases-hand_below g l = 2 * l.levels + 1

abbrev pub decreases-hand_children : goal.decreases-hand_children
decreases-hand_children g l = 2 * l.levels

abbrev pub invariant-hand_children-children : goal.invariant-hand_children-children
invariant-hand_children-children g l = record {
  some : 0 < l.fn.levels;
  within : l.index ≤ l.count;
  kept : Reads g.S.Pages l.fn.space l.space;
  refusal : g.S.Pages.refusal l.space ≡ g.S.Pages.refusal l.fn.space;
  handed : Hands g.T.RowTaker l.fn.taker l.fn.out l.taker l.out (Ok true) (TakesChildrenUpTo g.S.Pages l.fn.space l.space l.fn.page l.fn.levels l.view l.index);
}

abbrev pub decreases-hand_children-children : goal.decreases-hand_children-children
decreases-hand_children-children g l = l.count - l.index
