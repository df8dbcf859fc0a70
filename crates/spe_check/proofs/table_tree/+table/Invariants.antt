use Rattle.std.proofs.Common.{◌≡◌, ◌≤◌, ◌<◌, ◌+◌, ◌*◌, ◌++◌, ℕ, List, Ok, drop, length}
use Rattle.spe_model.specs.Tree.{node_at}
use Rattle.spe_model.specs.Verdict.{LeafRow}
use Rattle.spe_model.specs.Walk.{levels_at_leaf, table_marks, walk_rows}
use Rattle.spe_check.specs.Pages.{IsStand, behind_read}
use Rattle.spe_check.specs.Shown.{Each, Walked}
use Rattle.spe_check.specs.TableTree.{IsTableFanned, low_of, high_of}
use Rattle.spe_check.proofs.table_tree.+table.Given as goal

abbrev pub decreases-walk_table : goal.decreases-walk_table
decreases-walk_table g l = 2 * l.depth.levels + 1

abbrev pub decreases-walk_table_from : goal.decreases-walk_table_from
decreases-walk_table_from g l = 2 * l.depth.levels

abbrev pub invariant-walk_table_from-children : goal.invariant-walk_table_from-children
invariant-walk_table_from-children g l = record {
  some : 0 < l.fn.depth.levels;
  walked : Walked g.S.Pages l.fn.space l.space l.fn.walk.met l.walk.met;
  refusal : g.S.Pages.refusal l.space ≡ g.S.Pages.refusal l.fn.space;
  floor : g.V.RowVisitor.floor l.fn.visitor ≤ low_of l.fn.bounds.low → g.V.RowVisitor.floor l.visitor ≤ low_of l.low;
  under : low_of l.fn.bounds.low ≤ high_of l.fn.bounds.high → low_of l.low ≤ high_of l.fn.bounds.high;
  wanted : g.V.RowVisitor.wanted l.visitor ≡ g.V.RowVisitor.wanted l.fn.visitor;
  fanned : Each g.S.Pages l.space (λ usable pages. (stand holder : ℕ) (later : List LeafRow) → node_at usable pages l.page ≡ Ok l.node
      → IsStand l.fn.depth.leaf stand (levels_at_leaf usable pages l.fn.depth.levels l.page) → g.V.RowVisitor.floor l.fn.visitor ≤ low_of l.fn.bounds.low
      → IsTableFanned g.V.RowVisitor usable pages l.fn.walk.met l.walk.met l.visitor (g.V.RowVisitor.outlook l.fn.visitor (walk_rows usable pages l.fn.depth.levels l.page ++ later)) later
      (behind_read (table_marks (g.V.RowVisitor.outlook l.fn.visitor (walk_rows usable pages l.fn.depth.levels l.page ++ later)).marks usable pages stand l.fn.depth.levels (low_of l.fn.bounds.low) (high_of l.fn.bounds.high) holder l.page))
      stand l.fn.depth.levels (low_of l.low) (high_of l.fn.bounds.high) l.page l.leaf (drop l.index l.node.cells) l.node.right);
}

abbrev pub decreases-walk_table_from-children : goal.decreases-walk_table_from-children
decreases-walk_table_from-children g l = length (drop l.index l.node.cells)
