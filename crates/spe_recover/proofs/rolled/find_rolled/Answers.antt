use Rattle.std.proofs.Common.{◌∙◌, arith}
use Rattle.spe_recover.proofs.RolledLemmas.{hot_is, rolled_all, rolled_turn}
use Rattle.spe_recover.proofs.rolled.find_rolled.Goals as goal

pub loop-id-preserved : goal.loop-id-preserved
loop-id-preserved c = record {
  few = omega arith;
  rolled = λ content page_size known.
      rolled_turn content page_size c.loop-id.id c.loop-id.rolled _ c.says_hot-hot.result c.loop-id-test.true
      (c.says_hot-hot.ensures ∙ hot_is content page_size c.loop-id.id c.head_at.result.kind (known _ _ c.head_at.ensures).kind) c.with_bit-rolled.ensures (c.loop-id.invariant.rolled content page_size known);
}

pub returns : goal.returns
returns c = record { rolled = λ content page_size known. rolled_all content page_size c.loop-id.id c.loop-id.rolled c.loop-id-test.false (c.loop-id.invariant.rolled content page_size known) }
