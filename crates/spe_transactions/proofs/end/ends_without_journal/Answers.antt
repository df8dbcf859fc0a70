use Rattle.spe_transactions.proofs.CutWorkLemmas.{bare_ends}
use Rattle.spe_transactions.proofs.end.ends_without_journal.Goals as goal

pub returns : goal.returns
returns c = record { work = bare_ends }
