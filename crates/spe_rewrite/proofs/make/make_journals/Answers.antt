use Rattle.spe_rewrite.proofs.MakeLemmas.{making_cut, making_idle, making_stops}
use Rattle.spe_rewrite.proofs.make.make_journals.Goals as goal

pub returns-in_err-absent-clause-idle : goal.returns-in_err-absent-clause-idle
returns-in_err-absent-clause-idle g c =
    making_idle c.at_work_at_opening.ensures.work c.journal_made.ensures.work (g.D.Disk.told c.args.disk.now) _
    (making_cut (g.D.Disk.told c.args.disk.now) _ c.make_journals.result c.make_journals.ensures.made)

pub returns-in_err-absent-clause-stops : goal.returns-in_err-absent-clause-stops
returns-in_err-absent-clause-stops g c =
    making_stops c.at_work_at_opening.ensures.work c.journal_made.ensures.work (g.D.Disk.told c.args.disk.now) _
    (making_cut (g.D.Disk.told c.args.disk.now) _ c.make_journals.result c.make_journals.ensures.made)

pub returns-clause-idle : goal.returns-clause-idle
returns-clause-idle g c =
    making_idle c.at_work_at_opening.ensures.work c.journal_made.ensures.work (g.D.Disk.told c.args.disk.now) _
    (making_cut (g.D.Disk.told c.args.disk.now) _ c.make_journals.result c.make_journals.ensures.made)

pub returns-clause-stops : goal.returns-clause-stops
returns-clause-stops g c =
    making_stops c.at_work_at_opening.ensures.work c.journal_made.ensures.work (g.D.Disk.told c.args.disk.now) _
    (making_cut (g.D.Disk.told c.args.disk.now) _ c.make_journals.result c.make_journals.ensures.made)
