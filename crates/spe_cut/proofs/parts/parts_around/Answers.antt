use Rattle.spe_cut.proofs.LoopLemmas.{around_is}
use Rattle.spe_cut.proofs.parts.parts_around.Goals as goal

pub returns : goal.returns
returns c =
    around_is c.args.place c.args.cells.items _ _ _ _ _ _ _ _ c.in_ok-after.ensures.items c.in_ok-after.ensures.tail c.in_ok-one.ensures.items c.in_ok-one.ensures.tail
    c.new-parts.ensures.items c.in_ok-push_some.ensures c.in_ok-push_some-2.ensures c.in_ok-push_some-3.ensures
