use Rattle.spe_transactions.proofs.ListLemmas.{again_works}
use Rattle.spe_transactions.proofs.journal.page_journalled_again.Goals as goal

pub returns : goal.returns
returns c = record { work = again_works }
