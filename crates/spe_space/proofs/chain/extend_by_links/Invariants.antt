use Rattle.std.proofs.Common.{◌≡◌, length}
use Rattle.spe_space.specs.Calls.{Reads}
use Rattle.spe_space.specs.Found.{HasRest, HasPlace, AddsOfChain, IsNumbered}
use Rattle.spe_space.proofs.chain.extend_by_links.Given as goal

abbrev pub invariant-links : goal.invariant-links
invariant-links g l = record {
  kept : Reads g.S.Pages l.fn.space l.space;
  refusal : g.S.Pages.refusal l.space ≡ g.S.Pages.refusal l.fn.space;
  buf : length l.buf ≡ g.S.Pages.size l.fn.space;
  rest : HasRest g.S.Pages l.fn.space l.space l.first l.bytes l.fn.out.items l.out.items l.left l.page;
  place : HasPlace g.S.Pages l.fn.space l.space l.first l.bytes l.left l.page;
  numbered : IsNumbered l.bytes l.first → IsNumbered l.left l.page;
  adds : AddsOfChain g.S.Pages l.fn.space l.space l.first l.bytes;
}

abbrev pub decreases-links : goal.decreases-links
decreases-links g l = l.left
