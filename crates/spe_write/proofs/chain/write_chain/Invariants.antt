use Rattle.std.proofs.Common.{◌≡◌, ◌*◌, ◌-◌, ◌≤◌, length, take}
use Rattle.spe_model.specs.Chain.{link_room, links}
use Rattle.spe_model.specs.Paging.{Agrees, Paging}
use Rattle.spe_space.specs.Calls.{Keeps}
use Rattle.spe_frame.specs.Held.{IsReady}
use Rattle.spe_write.specs.Chain.{IsWritten}
use Rattle.spe_write.proofs.chain.write_chain.Given as goal

abbrev pub invariant-links : goal.invariant-links
invariant-links g l = record {
  kept : Keeps g.S.Pages l.fn.space l.space;
  refusal : g.S.Pages.refusal l.space ≡ g.S.Pages.refusal l.fn.space;
  buf : length l.buf.items ≡ g.S.Pages.size l.fn.space;
  low : l.index ≤ links (g.S.Pages.used l.fn.space) (length l.bytes);
  left : l.left ≡ take (l.index * link_room (g.S.Pages.used l.fn.space)) l.bytes;
  written : (pages : Paging) → Agrees pages (g.S.Pages.seen l.space) → IsReady g.S.Pages l.fn.space pages
      → IsWritten g.S.Pages l.fn.space l.space pages l.bytes (l.index * link_room (g.S.Pages.used l.fn.space)) (links (g.S.Pages.used l.fn.space) (length l.bytes) - l.index) l.first;
}

abbrev pub decreases-links : goal.decreases-links
decreases-links g l = l.index
