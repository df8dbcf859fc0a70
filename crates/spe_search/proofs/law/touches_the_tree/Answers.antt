use Rattle.spe_search.proofs.TouchedLemmas.{touched_in_tree}
use Rattle.spe_search.proofs.law.touches_the_tree.Goals as goal

pub returns : goal.returns
returns c = touched_in_tree
