use Rattle.spe_serve.proofs.writing.sound_reply.Goals as goal

pub returns-in-Prepare-clause-own : goal.returns-in-Prepare-clause-own
returns-in-Prepare-clause-own g c = rw c.in-Prepare.is (c.sound_prepare.ensures.own _)

pub returns-in-Release-clause-own : goal.returns-in-Release-clause-own
returns-in-Release-clause-own g c = rw c.in-Release.is (c.sound_release.ensures.own _)
