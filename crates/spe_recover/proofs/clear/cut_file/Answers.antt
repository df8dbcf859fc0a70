use Rattle.spe_model.specs.declared.file.FileNo.TheVariants.{Database}
use Rattle.spe_model.specs.Trace.Operation.{Cut}
use Rattle.spe_recover.proofs.RestoreLemmas.{told_stays, file_cut_stays}
use Rattle.spe_recover.proofs.clear.cut_file.Goals as goal

pub returns-clause-stays : goal.returns-clause-stays
returns-clause-stays g c = told_stays _ _ (Cut Database c.args.end) (file_cut_stays c.args.end) c.in_ok-cut.ensures.cut
