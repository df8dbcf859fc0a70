use Rattle.spe_transactions.proofs.GrowthLemmas.{end_stop_kept}
use Rattle.spe_transactions.proofs.served.kept_at_stopped_commit.Goals as goal

pub returns : goal.returns
returns g c = record { stopped = λ opening h commits journalled written k id left can. end_stop_kept g.M.Meeting.meets opening h commits journalled written k id can left }
