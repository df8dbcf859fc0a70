use Rattle.spe_cut.proofs.JoinLemmas.{pair_is_whole, run_is_gathered}
use Rattle.spe_cut.proofs.less.join_law.Goals as goal

pub returns : goal.returns
returns c = record { whole = pair_is_whole; gathered = run_is_gathered }
