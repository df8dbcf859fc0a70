use Rattle.std.proofs.Common.{◌≡◌, ◌≤◌, ◌++◌, List, drop, length}
use Rattle.spe_model.specs.Verdict.{LeafRow}
use Rattle.spe_model.specs.Walk.{leaf_marks, leaf_rows}
use Rattle.spe_check.specs.Shown.{Each, Walked}
use Rattle.spe_check.specs.TableTree.{IsRowed, low_of, high_of}
use Rattle.spe_check.proofs.table_tree.try_rows.Given as goal

abbrev pub invariant-rows : goal.invariant-rows
invariant-rows g l = record {
  walked : Walked g.S.Pages l.fn.space l.space l.fn.walk.met l.walk.met;
  refusal : g.S.Pages.refusal l.space ≡ g.S.Pages.refusal l.fn.space;
  floor : g.V.RowVisitor.floor l.fn.visitor ≤ low_of l.fn.bounds.low → g.V.RowVisitor.floor l.visitor ≤ low_of l.low;
  under : low_of l.fn.bounds.low ≤ high_of l.fn.bounds.high → low_of l.low ≤ high_of l.fn.bounds.high;
  wanted : g.V.RowVisitor.wanted l.visitor ≡ g.V.RowVisitor.wanted l.fn.visitor;
  rowed : Each g.S.Pages l.space (λ usable pages. (later : List LeafRow) → g.V.RowVisitor.floor l.fn.visitor ≤ low_of l.fn.bounds.low
      → IsRowed g.V.RowVisitor usable pages l.fn.walk.met l.walk.met l.visitor (g.V.RowVisitor.outlook l.fn.visitor (leaf_rows usable pages l.page l.node.cells ++ later)) later
      (leaf_marks (g.V.RowVisitor.outlook l.fn.visitor (leaf_rows usable pages l.page l.node.cells ++ later)).marks usable pages l.page (low_of l.fn.bounds.low) (high_of l.fn.bounds.high) l.node.cells)
      l.page (low_of l.low) (high_of l.fn.bounds.high) (drop l.index l.node.cells));
}

abbrev pub decreases-rows : goal.decreases-rows
decreases-rows g l = length (drop l.index l.node.cells)
