use Rattle.std.proofs.Common.{drop}
use Rattle.spe_check.specs.MetPages.{has_met}
use Rattle.spe_check.proofs.IndexLemmas.{chains_halt, chains_end, front_is}
use Rattle.spe_check.proofs.ShownLemmas.{shows_before}
use Rattle.spe_check.proofs.index_tree.try_chains.Goals as goal

pub returns-in-Err-clause-tried : goal.returns-in-Err-clause-tried
returns-in-Err-clause-tried g c = λ usable pages shows.
    let now = shows_before g.S.Pages c.cells.space c.try_cell.new.space usable pages c.in-Err.ensures.walked.reads shows in
    chains_halt c.args.walk.now.met.pages c.cells.walk.met.pages (has_met c.args.walk.now.met) (has_met c.cells.walk.met) (has_met c.try_cell.new.walk.met) usable pages c.args.page c.args.cells.now c.cells.left.now (drop 1 c.cells.left.now)
    c.cell-item.result c.in-Err.halt c.cells.invariant.walked.pages (front_is c.cells.left.now c.cell-item.result c.in-len1-up.len_at_least c.cell-item.is) (c.cells.invariant.led usable pages now)
    (c.in-Err.ensures.tried usable pages shows)

pub returns-clause-tried : goal.returns-clause-tried
returns-clause-tried g c = λ usable pages shows.
    chains_end c.args.walk.now.met.pages (has_met c.args.walk.now.met) (has_met c.cells.walk.met) usable pages c.args.page c.args.cells.now c.cells.left.now c.in_default.len_below (c.cells.invariant.led usable pages shows)
