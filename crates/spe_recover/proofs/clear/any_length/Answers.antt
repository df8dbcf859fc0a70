use Rattle.std.proofs.Common.{arith}
use Rattle.spe_recover.proofs.ClearLemmas.{look_found, look_turn, look_none}
use Rattle.spe_recover.proofs.clear.any_length.Goals as goal

pub returns-then-head_at-gt0 : goal.returns-then-head_at-gt0
returns-then-head_at-gt0 c = record {
  any = λ content known.
      look_found content c.loop-id.id c.head_at.result.length c.loop-id-test.true c.if-head_at-gt0.true (known _ _ c.head_at.ensures) (c.loop-id.invariant.looked content known);
}

pub loop-id-preserved : goal.loop-id-preserved
loop-id-preserved c = record {
  few = omega arith;
  looked = λ content known.
      look_turn content c.loop-id.id c.head_at.result.length c.loop-id-test.true c.if-head_at-gt0.false (known _ _ c.head_at.ensures) (c.loop-id.invariant.looked content known);
}

pub returns : goal.returns
returns c = record { any = λ content known. look_none content c.loop-id.id c.loop-id-test.false (c.loop-id.invariant.looked content known) }
