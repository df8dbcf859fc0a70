use Rattle.std.proofs.Common.{◌-◌, ◌≤◌, length}
use Rattle.spe_search.specs.Step.{LiesBetween}
use Rattle.spe_search.proofs.page.place_in.Given as goal

abbrev pub invariant-loop-low : goal.invariant-loop-low
invariant-loop-low l = record {
  order : l.low ≤ l.high;
  within : l.high ≤ length l.view.cells;
  between : LiesBetween l.view.cells l.key l.low l.high;
}

abbrev pub decreases-loop-low : goal.decreases-loop-low
decreases-loop-low l = l.high - l.low
