use Rattle.spe_transactions.proofs.GrowthLemmas.{cuts_meet}
use Rattle.spe_transactions.proofs.served.kept_at_cuts.Goals as goal

pub returns : goal.returns
returns g c = record { cuts = cuts_meet g.M.Meeting.meets }
