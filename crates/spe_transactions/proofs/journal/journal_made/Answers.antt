use Rattle.spe_transactions.proofs.JournalLemmas.{made_works}
use Rattle.spe_transactions.proofs.journal.journal_made.Goals as goal

pub returns : goal.returns
returns c = record { work = λ content pages journalled written a id low none. made_works content pages journalled written a id low none }
