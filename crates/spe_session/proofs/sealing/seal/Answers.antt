use Rattle.spe_session.proofs.sealing.seal.Goals as goal

pub commit-requires-clause-alone : goal.commit-requires-clause-alone
commit-requires-clause-alone g c = λ i p other written. (c.requires.alone i other).unseen p
