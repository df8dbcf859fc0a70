use Rattle.spe_crash.proofs.RollbackLemmas.{rolled_back}
use Rattle.spe_crash.proofs.rollback.rollback_restores.Goals as goal

pub returns : goal.returns
returns c = record {
  empties = λ content pages recovers. (rolled_back content pages recovers).empty;
  restores = λ content pages recovers. (rolled_back content pages recovers).restores;
}
