use Rattle.spe_verdict.proofs.HeaderLemmas.{legal_complete, legal_sound}
use Rattle.spe_verdict.proofs.law.legal_law.Goals as goal

pub returns : goal.returns
returns c = record { sound = legal_sound; complete = legal_complete }
