use Rattle.spe_core.proofs.OpeningLemmas.{fault_opens, whole_opens}
use Rattle.spe_core.proofs.opening.is_opening.Goals as goal

pub returns-in-Ok : goal.returns-in-Ok
returns-in-Ok c = whole_opens c.args.bytes.now _ _ _ c.front_of.ensures c.in-Ok.ensures.header c.is_whole.ensures

pub returns-in-Err : goal.returns-in-Err
returns-in-Err c = fault_opens c.args.bytes.now _ _ c.front_of.ensures c.in-Err.ensures.header
