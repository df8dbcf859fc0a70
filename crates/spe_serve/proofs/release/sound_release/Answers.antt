use Rattle.spe_serve.proofs.BehindLemmas.{of_releasing, sound_about, sound_cause, sound_own, sound_reply}
use Rattle.spe_serve.proofs.release.sound_release.Goals as goal

pub returns-clause-reply : goal.returns-clause-reply
returns-clause-reply g c =
    rw c.released_reply.ensures
    (sound_reply c.args.found.now (g.D.Disk.told c.args.disk) _ c.release-count.result c.counts_law.ensures.stands c.requires.limits c.requires.sound
    c.release-count.ensures.whole c.release-count.ensures.sound)

pub returns-clause-about : goal.returns-clause-about
returns-clause-about g c = rw c.released_reply.ensures (sound_about c.args.found.now.pages c.release-count.result)

pub returns-clause-own : goal.returns-clause-own
returns-clause-own g c = λ db.
    rw c.released_reply.ensures
    (sound_own db c.args.found.now (g.D.Disk.told c.args.disk) _ c.release-count.result c.counts_law.ensures.stands c.requires.limits c.requires.sound
    c.release-count.ensures.whole c.release-count.ensures.stops c.release-count.ensures.sound c.release-count.ensures.untouched)

pub returns-clause-cause : goal.returns-clause-cause
returns-clause-cause g c = rw c.released_reply.ensures (sound_cause _ _ _ _ c.args.found.now.pages c.release-count.result c.release-count.ensures.cause)

pub released_reply-requires : goal.released_reply-requires
released_reply-requires g c = of_releasing _ _ _ _ c.release-count.result c.release-count.ensures.cause
