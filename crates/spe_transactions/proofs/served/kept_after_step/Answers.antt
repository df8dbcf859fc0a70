use Rattle.spe_transactions.proofs.GrowthLemmas.{step_kept}
use Rattle.spe_transactions.proofs.served.kept_after_step.Goals as goal

pub returns : goal.returns
returns g c = record { kept = λ opening h commits journalled written k. step_kept g.M.Meeting.meets opening h commits journalled written k }
