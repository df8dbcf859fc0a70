use Rattle.spe_transactions.proofs.CutWorkLemmas.{drop_works}
use Rattle.spe_transactions.proofs.end.journal_cut_at_rollback.Goals as goal

pub returns : goal.returns
returns c = record { work = λ content pages journalled written a id low undone. drop_works content pages journalled written a id low undone }
