use Rattle.std.proofs.Common.{arith, ◌∙◌}
use Rattle.spe_rewrite.proofs.LeftLemmas.{OnErr-any, taken_off}
use Rattle.spe_rewrite.proofs.SaveLemmas.{KeepsFile-trans, counted_next, placed_first, placed_next, savings_broken, savings_turn}
use Rattle.spe_rewrite.proofs.journal.save_pages.Goals as goal

pub loop-left-preserved : goal.loop-left-preserved
loop-left-preserved g c =
    let is = taken_off c.loop-left.left.now c.change-item.result c.in-len1-up.len_at_least c.change-item.is in
    record {
      attached = c.save_page.ensures.attached;
      reads_later = omega (arith, c.loop-left.invariant.reads_later, c.save_page.ensures.cause.reads_later);
      ops_later = omega (arith, c.loop-left.invariant.ops_later, c.save_page.ensures.cause.ops_later);
      page = c.save_page.ensures.page ∙ c.loop-left.invariant.page;
      piece = c.save_page.ensures.piece ∙ c.loop-left.invariant.piece;
      placed = placed_next c.loop-left.saved c.args.count _ c.loop-left.left.now _ c.change-item.result is c.in_ok-saved.ensures.saved c.loop-left.invariant.placed;
      count = counted_next c.loop-left.saved c.args.count _ _ c.loop-left.left.now _ c.change-item.result is c.in_ok-saved.ensures.saved c.loop-left.invariant.count;
      keeps = KeepsFile-trans (g.D.Disk.told c.args.disk.now) (g.D.Disk.told c.loop-left.disk) _ c.loop-left.invariant.keeps c.in_ok-saved.ensures.keeps;
      begun =
          savings_turn _ c.args.nonce c.args.count c.loop-left.saved _ (g.D.Disk.told c.args.disk.now) (g.D.Disk.told c.loop-left.disk) _ c.args.changes.now c.loop-left.left.now _ c.change-item.result is
          c.in_ok-saved.ensures.saved c.loop-left.invariant.keeps (rw c.loop-left.invariant.page at c.in_ok-saved.ensures.made) c.loop-left.invariant.begun;
    }

pub save_page-requires-clause-few : goal.save_page-requires-clause-few
save_page-requires-clause-few g c =
    placed_first c.loop-left.saved c.loop-left.left.now _ c.change-item.result (taken_off c.loop-left.left.now c.change-item.result c.in-len1-up.len_at_least c.change-item.is)
    c.loop-left.invariant.placed

pub returns-in_err-saved-clause-stopped : goal.returns-in_err-saved-clause-stopped
returns-in_err-saved-clause-stopped g c =
    OnErr-any c.from_residual.result
    (savings_broken _ c.args.nonce c.args.count c.loop-left.saved (g.D.Disk.told c.args.disk.now) (g.D.Disk.told c.loop-left.disk) _ c.args.changes.now c.loop-left.left.now _ c.change-item.result
    (taken_off c.loop-left.left.now c.change-item.result c.in-len1-up.len_at_least c.change-item.is) c.loop-left.invariant.keeps
    (rw c.loop-left.invariant.page at c.in_err-saved.ensures.stopped) c.loop-left.invariant.begun)
