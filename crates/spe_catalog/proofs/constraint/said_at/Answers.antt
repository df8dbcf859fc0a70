use Rattle.std.proofs.Common.{sym, ◌∙◌}
use Rattle.spe_catalog.proofs.ConstraintLemmas.{says_more}
use Rattle.spe_catalog.proofs.constraint.said_at.Goals as goal

pub loop-left-preserved : goal.loop-left-preserved
loop-left-preserved c = record {
  says = c.loop-left.invariant.says ∙ says_more _ _ _ _ _ c.in_ok-next.ensures.says (sym c.in_ok-all.ensures);
  behind = c.loop-left.invariant.behind ∙ c.in_ok-next.ensures.behind;
}
