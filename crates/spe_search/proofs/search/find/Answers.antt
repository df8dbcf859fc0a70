use Rattle.spe_search.proofs.InsideLemmas.{misses_tree}
use Rattle.spe_search.proofs.search.find.Goals as goal

pub returns-clause-inside : goal.returns-clause-inside
returns-clause-inside g c =
    misses_tree g.S.Pages c.args.space.now c.descend.new.space c.args.root _ _ c.descend.result c.descend.ensures.page_out
