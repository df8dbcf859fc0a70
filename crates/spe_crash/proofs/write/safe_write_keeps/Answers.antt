use Rattle.spe_crash.proofs.WriteLemmas.{safe_keeps}
use Rattle.spe_crash.proofs.write.safe_write_keeps.Goals as goal

pub returns : goal.returns
returns c = record { keeps = safe_keeps }
