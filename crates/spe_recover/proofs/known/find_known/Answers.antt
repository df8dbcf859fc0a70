use Rattle.spe_recover.proofs.KnownLemmas.{find_sized, find_refused, none_by, some_by}
use Rattle.spe_recover.proofs.known.find_known.Goals as goal

pub returns-in-Ok-clause-answers : goal.returns-in-Ok-clause-answers
returns-in-Ok-clause-answers g c =
    find_sized (g.D.Disk.told c.args.disk.now) c.in_ok-n.n _ c.survey_sized.result c.in_ok-n.ensures.front (none_by _ _ _ c.in-Ok.ensures.size)
    (rw c.read_front.ensures.same at c.survey_sized.ensures.answers)

pub returns-in-Err-clause-answers : goal.returns-in-Err-clause-answers
returns-in-Err-clause-answers g c =
    find_refused (g.D.Disk.told c.args.disk.now) c.in_ok-n.n _ c.in-Err.fault c.in_ok-n.ensures.front (some_by _ _ _ c.in-Err.ensures.size)
