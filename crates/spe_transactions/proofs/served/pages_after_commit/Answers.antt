use Rattle.spe_transactions.proofs.CommitsLemmas.{after_commit}
use Rattle.spe_transactions.proofs.served.pages_after_commit.Goals as goal

pub returns : goal.returns
returns c = record { after = after_commit }
