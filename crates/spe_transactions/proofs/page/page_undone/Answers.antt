use Rattle.spe_transactions.proofs.PageWorkLemmas.{undo_works}
use Rattle.spe_transactions.proofs.page.page_undone.Goals as goal

pub returns : goal.returns
returns c = record { work = λ content pages journalled written a id p old found. undo_works content pages journalled written a id p old found }
