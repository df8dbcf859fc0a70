use Rattle.std.proofs.Common.{◌≡◌, ℕ, length}
use Rattle.spe_space.specs.Calls.{Reads}
use Rattle.spe_catalog.specs.Reader.{HasMade}
use Rattle.spe_catalog.specs.Asks.{AddsOnly, IsRootIn}
use Rattle.spe_catalog.proofs.reader.entries.Given as goal

abbrev pub invariant-loop-left : goal.invariant-loop-left
invariant-loop-left g l = record {
  kept : Reads g.S.Pages l.fn.space l.space;
  refusal : g.S.Pages.refusal l.space ≡ g.S.Pages.refusal l.fn.space;
  buf : length l.buf ≡ g.S.Pages.size l.fn.space;
  made : HasMade g.S.Pages l.fn.space l.space l.attached l.fn.rows l.left l.found.items;
  adds : AddsOnly g.S.Pages l.fn.space l.space (IsRootIn l.fn.rows);
  inside : (n : ℕ) → IsRootIn l.left n → IsRootIn l.fn.rows n;
}

abbrev pub decreases-loop-left : goal.decreases-loop-left
decreases-loop-left g l = length l.left
