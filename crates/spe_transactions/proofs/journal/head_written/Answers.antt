use Rattle.spe_transactions.proofs.JournalLemmas.{head_works}
use Rattle.spe_transactions.proofs.journal.head_written.Goals as goal

pub returns : goal.returns
returns c = record { work = λ content pages journalled written a id nonce size low small none. head_works content pages journalled written a id low nonce size small none }
