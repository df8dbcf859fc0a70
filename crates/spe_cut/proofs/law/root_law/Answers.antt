use Rattle.spe_cut.proofs.HolderLemmas.{holder_of_run, run_of_holder}
use Rattle.spe_cut.proofs.KeptLemmas.{run_stays}
use Rattle.spe_cut.proofs.OrderLemmas.{run_ascends}
use Rattle.spe_cut.proofs.law.root_law.Goals as goal

pub returns : goal.returns
returns c = record { holder = holder_of_run; held = run_of_holder; stays = run_stays; ascends = run_ascends }
