use Rattle.std.proofs.Common.{arith}
use Rattle.spe_freelist.proofs.StepLemmas.{took_new}
use Rattle.spe_freelist.proofs.take.take.Goals as goal

pub returns-in-0-clause-took : goal.returns-in-0-clause-took
returns-in-0-clause-took g c =
    took_new g.S.Pages c.args.space.now c.see_trunk.new.space c.take_new.new.space c.args.first c.take_new.result c.see_trunk.new.page
    c.in_ok-count.ensures.kept c.in_ok-count.ensures.bytes c.take_new.ensures.kept.earlier
    (omega (arith, c.in_ok-count.ensures.count)) (omega (arith, c.u32_of.ensures, c.in-0.is)) c.take_new.ensures.grown
