use Rattle.spe_opening.proofs.HeightLemmas.{height_failed, height_low, height_more, height_unread}
use Rattle.spe_opening.proofs.height.+height_below.Goals as goal

pub returns-in-Err-clause-found : goal.returns-in-Err-clause-found
returns-in-Err-clause-found g t c = height_unread g.S.Pages c.args.space.now c.see_node.new.space c.args.page c.args.levels c.in-Err.fault c.in-Err.ensures.given

pub returns-in_default-clause-found : goal.returns-in_default-clause-found
returns-in_default-clause-found g t c = height_low g.S.Pages c.args.space.now c.see_node.new.space c.args.page c.args.levels c.in-Ok.node c.in_default.ensures c.in-Ok.ensures.given

pub returns-in-Ok-height_below-clause-found : goal.returns-in-Ok-height_below-clause-found
returns-in-Ok-height_below-clause-found g t c =
    height_more g.S.Pages c.args.space.now c.see_node.new.space c.height_below.new.space c.args.page c.args.levels c.in-Some.child c.in-Ok-height_below.height c.in-Ok.node c.in-Ok.ensures.kept c.in-Ok-height_below.ensures.kept
    c.in-Ok.ensures.given c.in-Some.ensures.0 c.in-Some.ensures.1 c.in-Ok-height_below.ensures.found

pub returns-clause-found : goal.returns-clause-found
returns-clause-found g t c =
    height_failed g.S.Pages c.args.space.now c.see_node.new.space c.height_below.new.space c.args.page c.args.levels c.in-Some.child c.in-Ok.node c.in-Err-height_below.fault c.in-Ok.ensures.kept c.in-Err-height_below.ensures.kept
    c.in-Ok.ensures.given c.in-Some.ensures.0 c.in-Some.ensures.1 c.in-Err-height_below.ensures.found
