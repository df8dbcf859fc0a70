use Rattle.spe_transactions.proofs.GrowthLemmas.{bare_end_kept}
use Rattle.spe_transactions.proofs.served.kept_by_commit_without_journal.Goals as goal

pub returns : goal.returns
returns g c = record { kept = λ opening h commits journalled written k id none can. bare_end_kept g.M.Meeting.meets opening h commits journalled written k id can none }
