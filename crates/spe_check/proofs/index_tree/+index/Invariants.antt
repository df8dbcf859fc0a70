use Rattle.std.proofs.Common.{◌≡◌, ◌<◌, ◌+◌, ◌*◌, ℕ, Ok, length}
use Rattle.spe_model.specs.Tree.{node_at}
use Rattle.spe_model.specs.Walk.{index_marks, levels_at_leaf}
use Rattle.spe_check.specs.IndexTree.{IsFanned}
use Rattle.spe_check.specs.Pages.{IsStand, behind_read}
use Rattle.spe_check.specs.Shown.{Each, Walked}
use Rattle.spe_check.proofs.index_tree.+index.Given as goal

abbrev pub decreases-walk_index : goal.decreases-walk_index
decreases-walk_index g l = 2 * l.depth.levels + 1

abbrev pub decreases-walk_index_from : goal.decreases-walk_index_from
decreases-walk_index_from g l = 2 * l.depth.levels

abbrev pub invariant-walk_index_from-children : goal.invariant-walk_index_from-children
invariant-walk_index_from-children g l = record {
  some : 0 < l.fn.depth.levels;
  walked : Walked g.S.Pages l.fn.space l.space l.fn.walk.met l.walk.met;
  refusal : g.S.Pages.refusal l.space ≡ g.S.Pages.refusal l.fn.space;
  fanned : Each g.S.Pages l.space (λ usable pages. (stand holder : ℕ) → node_at usable pages l.page ≡ Ok l.fn.node → IsStand l.fn.depth.leaf stand (levels_at_leaf usable pages l.fn.depth.levels l.page)
      → IsFanned usable pages l.fn.walk.met l.walk.met (behind_read (index_marks usable pages stand l.fn.depth.levels holder l.page)) stand l.fn.depth.levels l.page l.leaf l.left l.right);
}

abbrev pub decreases-walk_index_from-children : goal.decreases-walk_index_from-children
decreases-walk_index_from-children g l = length l.left
