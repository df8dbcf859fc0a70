use Rattle.spe_transactions.proofs.ListLemmas.{least_works}
use Rattle.spe_transactions.proofs.page.least_page_to_undo.Goals as goal

pub returns : goal.returns
returns c = record { least = least_works }
