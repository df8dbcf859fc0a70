use Rattle.std.proofs.Common.{◌%◌, ◌^◌}
use Rattle.spe_model.specs.declared.file.FileNo.TheVariants.{Journal}
use Rattle.spe_rewrite.proofs.LeftLemmas.{OnErr-any, failed_cut}
use Rattle.spe_rewrite.proofs.StageLemmas.{counted_all, cutting_broken, head_broken, putting_broken, saving_broken, whole_made}
use Rattle.spe_rewrite.proofs.rewriting.rewrite_with.Goals as goal

pub returns-clause-counted : goal.returns-clause-counted
returns-clause-counted g c =
    counted_all c.args.page_size c.args.count (c.args.made % 2 ^ 32) c.args.changes.now c.requires.some (g.D.Disk.told c.args.disk.now) c.args.made _ _ _ _ c.in_ok-saved.ensures.saved
    c.saturating_add.ensures c.saturating_add-2.ensures c.saturating_add-3.ensures

pub returns-clause-made : goal.returns-clause-made
returns-clause-made g c =
    whole_made c.args.page_size c.args.count (c.args.made % 2 ^ 32) c.args.changes.now c.requires.some (g.D.Disk.told c.args.disk.now) _ _ _ _
    c.in_ok-write_head.ensures.made c.in_ok-write_head.ensures.keeps (rw c.requires.page at c.in_ok-saved.ensures.made) c.in_ok-put_pages.ensures.made c.in_ok-cut.ensures.cut

pub returns-in_err-write_head-clause-stopped : goal.returns-in_err-write_head-clause-stopped
returns-in_err-write_head-clause-stopped g c =
    OnErr-any c.from_residual.result
    (head_broken c.args.page_size c.args.count (c.args.made % 2 ^ 32) c.args.changes.now c.requires.some (g.D.Disk.told c.args.disk.now) _ c.in_err-write_head.ensures.stopped)

pub returns-in_err-saved-clause-stopped : goal.returns-in_err-saved-clause-stopped
returns-in_err-saved-clause-stopped g c =
    OnErr-any c.from_residual-in_err-saved.result
    (saving_broken c.args.page_size c.args.count (c.args.made % 2 ^ 32) c.args.changes.now c.requires.some (g.D.Disk.told c.args.disk.now) _ _
    c.in_ok-write_head.ensures.made c.in_ok-write_head.ensures.keeps (rw c.requires.page at c.in_err-saved.ensures.stopped))

pub returns-in_err-put_pages-clause-stopped : goal.returns-in_err-put_pages-clause-stopped
returns-in_err-put_pages-clause-stopped g c =
    OnErr-any c.from_residual-in_err-put_pages.result
    (putting_broken c.args.page_size c.args.count (c.args.made % 2 ^ 32) c.args.changes.now c.requires.some (g.D.Disk.told c.args.disk.now) _ _ _
    c.in_ok-write_head.ensures.made c.in_ok-write_head.ensures.keeps (rw c.requires.page at c.in_ok-saved.ensures.made) c.in_err-put_pages.ensures.stopped)

pub returns-in_err-cut-clause-stopped : goal.returns-in_err-cut-clause-stopped
returns-in_err-cut-clause-stopped g c =
    OnErr-any c.from_residual-in_err-cut.result
    (cutting_broken c.args.page_size c.args.count (c.args.made % 2 ^ 32) c.args.changes.now c.requires.some (g.D.Disk.told c.args.disk.now) _ _ _ _
    c.in_ok-write_head.ensures.made c.in_ok-write_head.ensures.keeps (rw c.requires.page at c.in_ok-saved.ensures.made) c.in_ok-put_pages.ensures.made
    (failed_cut _ _ (Journal 0) 0 c.in_err-cut.ensures.cut))
