use Rattle.std.proofs.Common.{arith}
use Rattle.spe_freelist.proofs.StepLemmas.{gave_leaf, gave_trunk}
use Rattle.spe_freelist.proofs.give.give.Goals as goal

pub returns-then-count-usable-clause-gave : goal.returns-then-count-usable-clause-gave
returns-then-count-usable-clause-gave g c =
    gave_leaf g.S.Pages c.args.space.now c.see_trunk.new.space c.give_leaf.new.space c.args.first c.args.page c.in_ok-count.count c.give_leaf.result c.see_trunk.new.page
    c.in_ok-count.ensures.kept c.in_ok-count.ensures.bytes c.give_leaf.ensures.kept.earlier c.in_ok-count.ensures.count.0
    (omega (arith, c.if-count-usable.true, c.usable.ensures.value, c.in_ok-count.ensures.kept.used)) c.give_leaf.ensures.put

pub returns-clause-gave : goal.returns-clause-gave
returns-clause-gave g c =
    gave_trunk g.S.Pages c.args.space.now c.see_trunk.new.space c.give_trunk.new.space c.args.first c.args.page c.in_ok-count.count c.give_trunk.result c.see_trunk.new.page
    c.in_ok-count.ensures.kept c.in_ok-count.ensures.bytes c.give_trunk.ensures.kept.earlier c.in_ok-count.ensures.count.0 c.in_ok-count.ensures.count.1
    (omega (arith, c.if-count-usable.false, c.usable.ensures.value, c.in_ok-count.ensures.kept.used)) c.give_trunk.ensures.put
