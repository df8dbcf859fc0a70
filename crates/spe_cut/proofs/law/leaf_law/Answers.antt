use Rattle.spe_cut.proofs.LeafLemmas.{parts_are_run}
use Rattle.spe_cut.proofs.law.leaf_law.Goals as goal

pub returns : goal.returns
returns c = record { parts = parts_are_run }
