use Rattle.std.proofs.Common.{◌≡◌, length}
use Rattle.spe_model.specs.Paging.{Agrees, Paging}
use Rattle.spe_space.specs.Calls.{Keeps, sight}
use Rattle.spe_write.specs.Chain.{IsHeldChain, IsLeft, pages_of_chain}
use Rattle.spe_write.proofs.chain.free_chain.Given as goal

abbrev pub invariant-links : goal.invariant-links
invariant-links g l = record {
  kept : Keeps g.S.Pages l.fn.space l.space;
  refusal : g.S.Pages.refusal l.space ≡ g.S.Pages.refusal l.fn.space;
  buf : length l.buf.items ≡ g.S.Pages.size l.fn.space;
  left : (pages : Paging) → Agrees pages (g.S.Pages.seen l.space) → IsHeldChain g.S.Pages l.fn.space pages l.bytes l.first
      → IsLeft g.S.Pages l.fn.space l.space pages (pages_of_chain (g.S.Pages.used l.fn.space) (sight g.S.Pages l.fn.space pages) l.bytes l.first) l.left l.page;
}

abbrev pub decreases-links : goal.decreases-links
decreases-links g l = l.left
