use Rattle.spe_recover.proofs.HeadLemmas.{other_told}
use Rattle.spe_recover.proofs.KnownLemmas.{refuses_other, survey_ok, survey_err}
use Rattle.spe_recover.proofs.known.survey_sized.Goals as goal

pub returns-in-Some-clause-answers : goal.returns-in-Some-clause-answers
returns-in-Some-clause-answers g c =
    refuses_other (g.D.Disk.told c.args.disk.now) c.args.page_size c.args.front.now c.in-Some.other c.requires.front
    (other_told (g.D.Disk.told c.args.disk.now) c.args.page_size c.in_ok-heads.heads _ _ c.in-Some.is c.find_other.ensures.other c.in_ok-heads.ensures.heads)

pub returns-in-Ok-clause-answers : goal.returns-in-Ok-clause-answers
returns-in-Ok-clause-answers g c =
    survey_ok (g.D.Disk.told c.args.disk.now) c.args.page_size c.in_ok-size.size c.args.front.now c.in_ok-seen.seen c.in_ok-heads.heads c.in-Ok.survey c.requires.front
    c.in_ok-heads.ensures.heads
    (other_told (g.D.Disk.told c.args.disk.now) c.args.page_size c.in_ok-heads.heads _ _ c.in_default.is c.find_other.ensures.other c.in_ok-heads.ensures.heads)
    (rw c.read_heads.ensures.same at c.in_ok-seen.ensures.seen)
    (rw (c.scan.ensures.same, c.read_heads.ensures.same) at c.in_ok-size.ensures.length)
    c.in-Ok.ensures.surveys

pub returns-in-Err-clause-answers : goal.returns-in-Err-clause-answers
returns-in-Err-clause-answers g c =
    survey_err (g.D.Disk.told c.args.disk.now) c.args.page_size c.in_ok-size.size c.args.front.now c.in_ok-seen.seen c.in-Err.fault c.requires.front
    (other_told (g.D.Disk.told c.args.disk.now) c.args.page_size c.in_ok-heads.heads _ _ c.in_default.is c.find_other.ensures.other c.in_ok-heads.ensures.heads)
    (rw c.read_heads.ensures.same at c.in_ok-seen.ensures.seen)
    (rw (c.scan.ensures.same, c.read_heads.ensures.same) at c.in_ok-size.ensures.length)
    c.in-Err.ensures.surveys c.in-Err.ensures.plain
