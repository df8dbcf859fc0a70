use Rattle.std.proofs.Common.{arith, ◌∙◌, ◌+◌, ◌-◌, ◌%◌, refl}
use Rattle.spe_format.proofs.VarintLemmas.{groups_turn, groups_end}
use Rattle.spe_format.proofs.varint.put_groups.Goals as goal

pub loop-at-preserved : goal.loop-at-preserved
loop-at-preserved c = record {
  within = omega arith;
  written =
      groups_turn c.loop-at.at (c.loop-at.at - 1) c.loop-at.rest (128 + c.loop-at.rest % 128) c.loop-at.out (omega arith) (omega arith) refl ∙ c.loop-at.invariant.written;
}

pub returns : goal.returns
returns c = groups_end c.loop-at.at c.loop-at.rest c.loop-at.out _ (omega arith) c.loop-at.invariant.written
