use Rattle.spe_crash.proofs.TraceLemmas.{torn_keeps}
use Rattle.spe_crash.proofs.write.torn_write_keeps.Goals as goal

pub returns : goal.returns
returns c = record { keeps = torn_keeps }
