use Rattle.std.proofs.Common.{arith}
use Rattle.spe_stored.proofs.PlanLemmas.{none_left, short_none}
use Rattle.spe_stored.proofs.plan.restore_records.Goals as goal

pub returns : goal.returns
returns c =
    none_left _ _ c.args.plan.now c.loop-left.plan (short_none c.args.nonce c.args.plan.now.page_size c.loop-left.left.now (omega (arith, c.loop-left.invariant.size))) c.loop-left.invariant.leaves
