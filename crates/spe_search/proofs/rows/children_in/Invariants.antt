use Rattle.std.proofs.Common.{◌-◌, ◌≤◌, All}
use Rattle.spe_search.specs.Step.{HasChild}
use Rattle.spe_search.specs.Range.{HasListed}
use Rattle.spe_search.proofs.rows.children_in.Given as goal

abbrev pub invariant-loop-index : goal.invariant-loop-index
invariant-loop-index l = record {
  within : l.index ≤ l.count;
  shown : All (HasChild l.view.cells l.view.right) l.children.items;
  listed : HasListed l.view.cells l.view.right l.low l.high l.index l.children.items;
}

abbrev pub decreases-loop-index : goal.decreases-loop-index
decreases-loop-index l = l.count - l.index
