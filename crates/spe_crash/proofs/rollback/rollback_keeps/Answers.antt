use Rattle.std.proofs.Common.{length}
use Rattle.spe_model.specs.Rollback.{rule_of}
use Rattle.spe_crash.proofs.RollLemmas.{rolls_covered, rolls_cut}
use Rattle.spe_crash.proofs.RollbackLemmas.{rolled_back}
use Rattle.spe_crash.proofs.TraceLemmas.{cut_covered}
use Rattle.spe_crash.proofs.rollback.rollback_keeps.Goals as goal

pub returns : goal.returns
returns c = record {
  keeps = λ content pages cut recovers is. rolls_cut pages content (rule_of content (length pages)) cut (rolled_back content pages recovers).rolls is;
  covered = λ content pages cut recovers is.
      cut_covered content (rule_of content (length pages)) cut (rolls_covered pages content (rule_of content (length pages)) (rolled_back content pages recovers).rolls) is;
}
