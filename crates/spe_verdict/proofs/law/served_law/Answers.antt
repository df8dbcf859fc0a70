use Rattle.spe_verdict.proofs.RootLemmas.{framed, one, stand}
use Rattle.spe_verdict.proofs.law.served_law.Goals as goal

pub returns : goal.returns
returns c = record { stand = stand; framed = framed; one = one }
