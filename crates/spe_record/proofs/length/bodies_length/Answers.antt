use Rattle.std.proofs.Common.{arith}
use Rattle.spe_model.specs.Length.{body_length}
use Rattle.spe_record.proofs.FieldsLemmas.{rest_length, sum_step, sum_end}
use Rattle.spe_record.proofs.length.bodies_length.Goals as goal

pub loop-left-preserved : goal.loop-left-preserved
loop-left-preserved c =
    let left = c.loop-left.left.now in
    let rest = rest_length c.value-item.result c.loop-left.place left c.in-len1-up.len_at_least in
    record {
      places = omega (arith, rest, c.loop-left.invariant.places);
      within = omega (arith, c.saturating_add-sum.ensures);
      sum =
          sum_step body_length c.args.alias c.loop-left.place c.loop-left.sum _ _ _ _ c.value-item.result left c.in-len1-up.len_at_least c.value-item.is c.body_length_at.ensures
          c.saturating_add-sum.ensures c.loop-left.invariant.sum;
    }

pub returns : goal.returns
returns c =
    sum_end body_length c.args.alias c.loop-left.place c.loop-left.sum _ _ c.loop-left.left.now (omega (arith, c.in_default.len_below)) c.loop-left.invariant.within
    c.loop-left.invariant.sum
