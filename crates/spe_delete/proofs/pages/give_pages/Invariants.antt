use Rattle.std.proofs.Common.{◌≡◌, length}
use Rattle.spe_model.specs.Paging.{Agrees, Paging}
use Rattle.spe_space.specs.Calls.{Keeps}
use Rattle.spe_frame.specs.Held.{AreHeld, IsReady, Shifts}
use Rattle.spe_frame.specs.Times.{Lacks}
use Rattle.spe_delete.proofs.pages.give_pages.Given as goal

abbrev pub invariant-frees : goal.invariant-frees
invariant-frees g l = record {
  kept : Keeps g.S.Pages l.fn.space l.space;
  refusal : g.S.Pages.refusal l.space ≡ g.S.Pages.refusal l.fn.space;
  freed : (pages : Paging) → Agrees pages (g.S.Pages.seen l.space) → IsReady g.S.Pages l.fn.space pages → AreHeld g.S.Pages l.fn.space pages l.fn.list
      → Lacks l.fn.list 1 → Shifts g.S.Pages l.fn.space l.space pages l.fn.list l.left 0;
}

abbrev pub decreases-frees : goal.decreases-frees
decreases-frees g l = length l.left
