use Rattle.std.proofs.Common.{◌*◌, refl}
use Rattle.spe_recover.proofs.CutLemmas.{OnErr-any}
use Rattle.spe_recover.proofs.HeadLemmas.{lengths_now}
use Rattle.spe_recover.proofs.RestoreLemmas.{Stays-trans}
use Rattle.spe_recover.proofs.WrittenLemmas.{all_made, restoring_stopped, cutting_stopped, clearing_stopped}
use Rattle.spe_recover.proofs.write_back.write_files.Goals as goal

pub cut_journals-requires-clause-lengths : goal.cut_journals-requires-clause-lengths
cut_journals-requires-clause-lengths g c =
    lengths_now (g.D.Disk.told c.args.disk.now) _ c.args.survey.now.page_size c.args.heads.now
    (Stays-trans (g.D.Disk.told c.args.disk.now) (g.D.Disk.told c.restore_all.new.disk) _ c.in_ok-restored.ensures.stays c.in_ok-cut.ensures.stays) c.requires.heads

pub returns-clause-made : goal.returns-clause-made
returns-clause-made g c =
    all_made (g.D.Disk.told c.args.disk.now) _ _ _ c.args.survey.now _ _ _ _ _ (c.from.result * c.from-2.result) c.requires.ready c.in_ok-restored.ensures.restored c.in_ok-restored.ensures.stays
    c.in_ok-cut.ensures.cut (rw (c.from.ensures, c.from-2.ensures) refl) c.in_ok-cut.ensures.stays c.in_ok-cleared.ensures.cut

pub returns-in_err-restored-clause-stopped : goal.returns-in_err-restored-clause-stopped
returns-in_err-restored-clause-stopped g c =
    OnErr-any c.from_residual.result (restoring_stopped (g.D.Disk.told c.args.disk.now) _ c.args.survey.now c.args.holders.now c.requires.ready c.in_err-restored.ensures.stopped)

pub returns-in_err-cut-clause-stopped : goal.returns-in_err-cut-clause-stopped
returns-in_err-cut-clause-stopped g c =
    OnErr-any c.from_residual-in_err-cut.result
    (cutting_stopped (g.D.Disk.told c.args.disk.now) _ _ c.args.survey.now c.args.holders.now _ _ (c.from.result * c.from-2.result) c.requires.ready c.in_ok-restored.ensures.restored
    c.in_ok-restored.ensures.stays c.in_err-cut.ensures.stopped (rw (c.from.ensures, c.from-2.ensures) refl))

pub returns-in_err-cleared-clause-stopped : goal.returns-in_err-cleared-clause-stopped
returns-in_err-cleared-clause-stopped g c =
    OnErr-any c.from_residual-in_err-cleared.result
    (clearing_stopped (g.D.Disk.told c.args.disk.now) _ _ _ c.args.survey.now c.args.holders.now _ _ _ (c.from.result * c.from-2.result) c.requires.ready c.in_ok-restored.ensures.restored
    c.in_ok-restored.ensures.stays c.in_ok-cut.ensures.cut (rw (c.from.ensures, c.from-2.ensures) refl) c.in_ok-cut.ensures.stays c.in_err-cleared.ensures.stopped)
