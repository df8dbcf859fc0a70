use Rattle.std.proofs.Common.{◌≡◌, length}
use Rattle.spe_space.specs.Calls.{Reads}
use Rattle.spe_search.specs.Last.{HasCut, AddsAtEnd}
use Rattle.spe_search.proofs.last.+last_below.Given as goal

abbrev pub decreases-last_below : goal.decreases-last_below
decreases-last_below g l = l.levels

abbrev pub invariant-children : goal.invariant-children
invariant-children g l = record {
  kept : Reads g.S.Pages l.fn.space l.space;
  refusal : g.S.Pages.refusal l.space ≡ g.S.Pages.refusal l.fn.space;
  buf : length l.buf ≡ g.S.Pages.size l.fn.space;
  cut : HasCut g.S.Pages l.fn.space l.space l.page l.levels l.before l.child;
  adds : AddsAtEnd g.S.Pages l.fn.space l.space l.page l.levels;
}

abbrev pub decreases-children : goal.decreases-children
decreases-children g l = l.before
