use Rattle.std.proofs.Common.{refl, arith}
use Rattle.spe_exec.proofs.RowsLemmas.{front_is}
use Rattle.spe_exec.proofs.BoundsLemmas.{narrowed_more}
use Rattle.spe_exec.proofs.bounds.bounds.Goals as goal

pub loop-left-preserved : goal.loop-left-preserved
loop-left-preserved c =
    narrowed_more c.args.conds.now c.loop-left.left.now _ c.cond-item.result c.loop-left.span c.in-Some.next
    (front_is c.loop-left.left.now c.cond-item.result _ (omega (arith, c.in-len1-up.len_at_least)) c.cond-item.is refl)
    c.loop-left.invariant c.in-Some.ensures
