use Rattle.spe_transactions.proofs.CutWorkLemmas.{commit_works}
use Rattle.spe_transactions.proofs.end.journal_cut_at_commit.Goals as goal

pub returns : goal.returns
returns c = record { work = λ content pages journalled written a id low may. commit_works content pages journalled written a id low may }
