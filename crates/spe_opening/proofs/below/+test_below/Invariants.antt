use Rattle.std.proofs.Common.{◌≡◌, length}
use Rattle.spe_space.specs.Calls.{Reads}
use Rattle.spe_opening.proofs.BelowLemmas.{IsTesting}
use Rattle.spe_opening.proofs.below.+test_below.Given as goal

abbrev pub decreases-test_below : goal.decreases-test_below
decreases-test_below g l = l.height

abbrev pub invariant-loop-left : goal.invariant-loop-left
invariant-loop-left g l = record {
  kept : Reads g.S.Pages l.fn.space l.space;
  refusal : g.S.Pages.refusal l.space ≡ g.S.Pages.refusal l.fn.space;
  buf : length l.buf ≡ g.S.Pages.size l.fn.space;
  testing : IsTesting g.S.Pages l.fn.space l.space l.page l.height l.left;
}

abbrev pub decreases-loop-left : goal.decreases-loop-left
decreases-loop-left g l = length l.left
