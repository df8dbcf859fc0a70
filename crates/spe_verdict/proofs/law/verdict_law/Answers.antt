use Rattle.spe_verdict.proofs.OneLemmas.{one}
use Rattle.spe_verdict.proofs.StandLemmas.{complete, sound}
use Rattle.spe_verdict.proofs.law.verdict_law.Goals as goal

pub returns : goal.returns
returns c = record { sound = sound; complete = complete; one = one }
