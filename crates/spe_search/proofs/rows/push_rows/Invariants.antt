use Rattle.std.proofs.Common.{◌≡◌, ◌-◌, ◌≤◌, length, map}
use Rattle.spe_space.specs.Calls.{Reads}
use Rattle.spe_search.specs.Leaves.{HasTaken}
use Rattle.spe_search.specs.Pairs.{pair_seen}
use Rattle.spe_search.specs.Range.{HasPushed, AddsOfRows}
use Rattle.spe_search.proofs.rows.push_rows.Given as goal

abbrev pub invariant-loop-index : goal.invariant-loop-index
invariant-loop-index g l = record {
  within : l.index ≤ l.count;
  kept : Reads g.S.Pages l.fn.space l.space;
  refusal : g.S.Pages.refusal l.space ≡ g.S.Pages.refusal l.fn.space;
  buf : length l.buf ≡ g.S.Pages.size l.fn.space;
  pushed : HasPushed g.S.Pages l.fn.space l.space l.view.cells l.low l.high l.index (map pair_seen l.fn.out) (map pair_seen l.out);
  adds : AddsOfRows g.S.Pages l.fn.space l.space l.view.cells l.low l.high;
  leaf : HasTaken g.S.Pages l.fn.space l.space l.page l.view.cells l.fn.out l.out;
}

abbrev pub decreases-loop-index : goal.decreases-loop-index
decreases-loop-index g l = l.count - l.index
