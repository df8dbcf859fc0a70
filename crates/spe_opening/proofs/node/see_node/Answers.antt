use Rattle.spe_space.specs.Calls.{sight}
use Rattle.spe_opening.proofs.BelowLemmas.{get_failed, node_lost, node_refused, node_same}
use Rattle.spe_opening.proofs.node.see_node.Goals as goal

pub returns-in-Err-clause-given : goal.returns-in-Err-clause-given
returns-in-Err-clause-given g c = λ pages agrees. get_failed (g.S.Pages.count c.get.new.self) c.args.page c.in-Err.fault c.in-Err.ensures.fault

pub returns-in-Ok-node_in-clause-given : goal.returns-in-Ok-node_in-clause-given
returns-in-Ok-node_in-clause-given g c = λ pages agrees.
    node_same c.usable-usable.result (g.S.Pages.used c.args.space.now) _ _ (sight g.S.Pages c.args.space.now pages c.args.page) c.in-Ok-node_in.node c.usable-usable.ensures.value
    (c.in-Ok.ensures.ok pages agrees) c.in-Ok-node_in.ensures.legal

pub returns-in-Err-node_in-clause-given : goal.returns-in-Err-node_in-clause-given
returns-in-Err-node_in-clause-given g c = λ pages agrees.
    node_lost (g.S.Pages.used c.args.space.now) c.usable-usable.result (sight g.S.Pages c.args.space.now pages) c.args.page _ c.in-Err-node_in.fault c.usable-usable.ensures.value
    (c.in-Ok.ensures.ok pages agrees) c.in-Err-node_in.ensures.fault c.in-Err-node_in.ensures.only

pub returns-in-Err-node_in-clause-refusal : goal.returns-in-Err-node_in-clause-refusal
returns-in-Err-node_in-clause-refusal g c = node_refused g.S.Pages c.args.space.now c.get.new.self c.args.page c.in-Err-node_in.fault c.in-Err-node_in.ensures.only c.in-Ok.ensures.refusal
