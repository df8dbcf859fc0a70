use Rattle.spe_transactions.proofs.GrowthLemmas.{stop_kept}
use Rattle.spe_transactions.proofs.served.kept_at_stop.Goals as goal

pub returns : goal.returns
returns g c = record { stopped = λ opening h commits journalled written k. stop_kept g.M.Meeting.meets opening h commits journalled written k }
