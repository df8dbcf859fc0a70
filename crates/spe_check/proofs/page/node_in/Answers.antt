use Rattle.spe_check.proofs.PageLemmas.{reading_halts}
use Rattle.spe_check.proofs.page.node_in.Goals as goal

pub returns-in-Err : goal.returns-in-Err
returns-in-Err c = reading_halts c.in-Err.fault _ c.args.page c.halt_of.result c.in-Err.ensures c.halt_of.ensures
