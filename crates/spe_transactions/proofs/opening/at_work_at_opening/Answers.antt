use Rattle.spe_transactions.proofs.OpeningLemmas.{opening_works}
use Rattle.spe_transactions.proofs.opening.at_work_at_opening.Goals as goal

pub returns : goal.returns
returns c = record { work = opening_works }
