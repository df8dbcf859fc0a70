use Rattle.spe_crash.proofs.WriteLemmas.{trimmed_keeps}
use Rattle.spe_crash.proofs.write.trim_keeps.Goals as goal

pub returns : goal.returns
returns c = record { keeps = trimmed_keeps }
