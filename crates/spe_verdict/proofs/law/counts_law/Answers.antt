use Rattle.spe_verdict.proofs.CountLemmas.{counts}
use Rattle.spe_verdict.proofs.VerdictLemmas.{broken, stands}
use Rattle.spe_verdict.proofs.law.counts_law.Goals as goal

pub returns : goal.returns
returns c = record { counts = counts; stands = stands; broken = broken }
