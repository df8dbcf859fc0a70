use Rattle.spe_transactions.proofs.GrowthLemmas.{saying_changes}
use Rattle.spe_transactions.proofs.served.kept_after_another.Goals as goal

pub returns : goal.returns
returns g c = record { kept = saying_changes g.M.Meeting.meets g.O.Meeting.meets }
