use Rattle.std.proofs.Common.{◌≡◌, length}
use Rattle.spe_model.specs.Walk.{chains_marks}
use Rattle.spe_check.specs.MetPages.{has_met}
use Rattle.spe_check.specs.Shown.{Each, Walked}
use Rattle.spe_check.specs.Tries.{Leads}
use Rattle.spe_check.proofs.index_tree.try_chains.Given as goal

abbrev pub invariant-cells : goal.invariant-cells
invariant-cells g l = record {
  walked : Walked g.S.Pages l.fn.space l.space l.fn.walk.met l.walk.met;
  refusal : g.S.Pages.refusal l.space ≡ g.S.Pages.refusal l.fn.space;
  led : Each g.S.Pages l.space (λ usable pages. Leads l.fn.walk.met.pages (has_met l.fn.walk.met) (chains_marks usable pages l.page l.cells) (has_met l.walk.met) (chains_marks usable pages l.page l.left));
}

abbrev pub decreases-cells : goal.decreases-cells
decreases-cells g l = length l.left
