use Rattle.spe_search.proofs.WholeLemmas.{all_between}
use Rattle.spe_search.proofs.law.spans_the_table.Goals as goal

pub returns : goal.returns
returns c = all_between
