use Rattle.spe_verdict.proofs.FrameLemmas.{served}
use Rattle.spe_verdict.proofs.law.framed_law.Goals as goal

pub returns : goal.returns
returns c = record { served = served }
