use Rattle.spe_model.specs.declared.file.FileNo.TheVariants.{Journal}
use Rattle.spe_recover.proofs.ClearLemmas.{cut_nothing, cut_some, cut_stays, cut_broken}
use Rattle.spe_recover.proofs.CutLemmas.{failed_cut, OnErr-any}
use Rattle.spe_recover.proofs.clear.cut_journal.Goals as goal

pub returns-then-size-eq0-clause-cut : goal.returns-then-size-eq0-clause-cut
returns-then-size-eq0-clause-cut g c = cut_nothing (g.D.Disk.told c.args.disk.now) c.args.id c.args.size c.if-size-eq0.true c.requires.size

pub returns-clause-cut : goal.returns-clause-cut
returns-clause-cut g c = cut_some (g.D.Disk.told c.args.disk.now) _ c.args.id c.args.size c.if-size-eq0.false c.requires.size c.in_ok-cut.ensures.cut

pub returns-clause-stays : goal.returns-clause-stays
returns-clause-stays g c = cut_stays (g.D.Disk.told c.args.disk.now) _ c.args.id c.in_ok-cut.ensures.cut

pub returns-in_err-cut-clause-stopped : goal.returns-in_err-cut-clause-stopped
returns-in_err-cut-clause-stopped g c =
    OnErr-any c.from_residual.result
    (cut_broken (g.D.Disk.told c.args.disk.now) _ c.args.id c.args.size c.if-size-eq0.false c.requires.size
    (failed_cut (g.D.Disk.told c.args.disk.now) _ (Journal c.args.id) 0 c.in_err-cut.ensures.cut))
