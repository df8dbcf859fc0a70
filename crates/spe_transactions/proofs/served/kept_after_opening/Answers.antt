use Rattle.spe_transactions.proofs.GrowthLemmas.{opening_kept}
use Rattle.spe_transactions.proofs.served.kept_after_opening.Goals as goal

pub returns : goal.returns
returns g c = record { kept = opening_kept g.M.Meeting.meets }
