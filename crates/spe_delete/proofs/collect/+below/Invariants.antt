use Rattle.std.proofs.Common.{◌≡◌, ◌<◌, length, ℕ, ◌+◌, ◌*◌}
use Rattle.spe_model.specs.Paging.{Agrees, Paging}
use Rattle.spe_space.specs.Calls.{Reads}
use Rattle.spe_delete.specs.Leaves.{IsHeldRun, StaysSound, run_with}
use Rattle.spe_delete.proofs.CollectLemmas.{IsGathering}
use Rattle.spe_delete.proofs.collect.+below.Given as goal

abbrev pub decreases-gather_below : goal.decreases-gather_below
decreases-gather_below g l = 2 * l.levels

abbrev pub decreases-gather_children : goal.decreases-gather_children
decreases-gather_children g l = 2 * l.levels + 1

abbrev pub invariant-gather_children-children : goal.invariant-gather_children-children
invariant-gather_children-children g l = record {
  reads : Reads g.S.Pages l.fn.space l.space;
  refusal : g.S.Pages.refusal l.space ≡ g.S.Pages.refusal l.fn.space;
  sound : StaysSound (g.S.Pages.used l.fn.space) l.fn.leaves l.leaves;
  gathered : (pages : Paging) (height low high : ℕ) → Agrees pages (g.S.Pages.seen l.space) → height < l.fn.levels
      → IsHeldRun g.S.Pages l.fn.space pages height low high (run_with l.fn.cells l.fn.right)
      → IsGathering g.S.Pages l.fn.space l.space pages height high (run_with l.fn.cells l.fn.right) (run_with l.left l.fn.right) l.fn.leaves l.leaves;
}

abbrev pub decreases-gather_children-children : goal.decreases-gather_children-children
decreases-gather_children-children g l = length l.left
