use Rattle.spe_cut.proofs.SplitLemmas.{halves_are_pair, run_is_cut}
use Rattle.spe_cut.proofs.law.split_law.Goals as goal

pub returns : goal.returns
returns c = record { halves = run_is_cut; pair = halves_are_pair }
