use Rattle.std.proofs.Common.{arith, ◌∙◌, sym}
use Rattle.spe_serve.proofs.RowLemmas.{padded_one, padded_all}
use Rattle.spe_serve.proofs.row.pad.Goals as goal

pub loop-values-preserved : goal.loop-values-preserved
loop-values-preserved c = record {
  few = omega (arith, c.in_ok-push.ensures.len);
  same = padded_one _ _ _ c.in_ok-push.ensures.items (omega arith) ∙ c.loop-values.invariant.same;
}

pub returns : goal.returns
returns c = sym (padded_all _ _ (omega arith)) ∙ c.loop-values.invariant.same
