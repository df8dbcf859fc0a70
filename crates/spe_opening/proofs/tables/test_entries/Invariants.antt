use Rattle.std.proofs.Common.{◌≡◌, length}
use Rattle.spe_space.specs.Calls.{Reads}
use Rattle.spe_opening.proofs.EntryLemmas.{AreTesting}
use Rattle.spe_opening.proofs.tables.test_entries.Given as goal

abbrev pub invariant-loop-left : goal.invariant-loop-left
invariant-loop-left g l = record {
  kept : Reads g.S.Pages l.fn.space l.space;
  refusal : g.S.Pages.refusal l.space ≡ g.S.Pages.refusal l.fn.space;
  buf : length l.buf ≡ g.S.Pages.size l.fn.space;
  testing : AreTesting g.S.Pages l.fn.space l.space l.entries l.left;
}

abbrev pub decreases-loop-left : goal.decreases-loop-left
decreases-loop-left g l = length l.left
