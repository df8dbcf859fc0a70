use Rattle.std.proofs.Common.{◌≡◌, ◌+◌, ◌*◌, ◌≤◌, length}
use Rattle.spe_check.specs.Trunks.{IsAmong}
use Rattle.spe_check.specs.Shown.{Each, Walked}
use Rattle.spe_check.proofs.trunk.try_trunks.Given as goal

abbrev pub invariant-trunks : goal.invariant-trunks
invariant-trunks g l = record {
  walked : Walked g.S.Pages l.fn.space l.space l.fn.met l.met;
  refusal : g.S.Pages.refusal l.space ≡ g.S.Pages.refusal l.fn.space;
  buf : length l.buf ≡ g.S.Pages.size l.fn.space;
  few : l.free + 16385 * l.most ≤ 16385 * l.fn.met.pages;
  among : Each g.S.Pages l.space (λ usable pages. IsAmong usable pages l.fn.met l.met l.holder l.first l.free l.most l.at l.trunk);
}

abbrev pub decreases-trunks : goal.decreases-trunks
decreases-trunks g l = l.most
