use Rattle.std.proofs.Common.{◌≡◌}
use Rattle.spe_check.specs.Chains.{IsAlong}
use Rattle.spe_check.specs.Shown.{Each, Walked}
use Rattle.spe_check.proofs.chain.try_chain.Given as goal

abbrev pub invariant-links : goal.invariant-links
invariant-links g l = record {
  walked : Walked g.S.Pages l.fn.space l.space l.fn.walk.met l.walk.met;
  refusal : g.S.Pages.refusal l.space ≡ g.S.Pages.refusal l.fn.space;
  along : Each g.S.Pages l.space (λ usable pages. IsAlong usable pages l.fn.walk.met l.walk.met l.holder l.first l.bytes l.wanted l.fn.walk.payload.items l.walk.payload.items l.at l.page l.left);
}

abbrev pub decreases-links : goal.decreases-links
decreases-links g l = l.left
