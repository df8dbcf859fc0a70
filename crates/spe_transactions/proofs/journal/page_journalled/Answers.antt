use Rattle.spe_transactions.proofs.JournalLemmas.{record_works}
use Rattle.spe_transactions.proofs.journal.page_journalled.Goals as goal

pub returns : goal.returns
returns c = record { work = λ content pages journalled written a id p low begun some within free. record_works content pages journalled written a id low p begun some within free }
