use Rattle.spe_transactions.proofs.GrowthLemmas.{end_kept}
use Rattle.spe_transactions.proofs.served.kept_after_commit.Goals as goal

pub returns : goal.returns
returns g c = record { kept = λ opening h commits journalled written k. end_kept g.M.Meeting.meets opening h commits journalled written k }
