use Rattle.spe_transactions.proofs.PageWorkLemmas.{put_works}
use Rattle.spe_transactions.proofs.page.page_written.Goals as goal

pub returns : goal.returns
returns c = record { work = λ content pages journalled written a id p bytes sized front may. put_works content pages journalled written a id p bytes sized front may }
