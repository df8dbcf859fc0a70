use Rattle.std.proofs.Common.{◌∙◌, arith}
use Rattle.spe_recover.proofs.HeadLemmas.{searched_turn, searched_found, searched_none}
use Rattle.spe_recover.proofs.heads.find_other.Goals as goal

pub returns-in-OtherSize : goal.returns-in-OtherSize
returns-in-OtherSize c = record {
  other = λ content page_size known.
      searched_found content page_size c.loop-id.id c.in-OtherSize.size c.loop-id-test.true ((known _ _ c.head_at.ensures).kind ∙ c.in-OtherSize.is) (c.loop-id.invariant.searched content page_size known);
}

pub loop-id-preserved : goal.loop-id-preserved
loop-id-preserved c = record {
  few = omega arith;
  searched = λ content page_size known.
      searched_turn content page_size c.loop-id.id _ c.loop-id-test.true (known _ _ c.head_at.ensures).kind c.in_default.not-OtherSize (c.loop-id.invariant.searched content page_size known);
}

pub returns : goal.returns
returns c = record { other = λ content page_size known. searched_none content page_size c.loop-id.id c.loop-id-test.false (c.loop-id.invariant.searched content page_size known) }
