use Rattle.spe_transactions.proofs.CutWorkLemmas.{commit_leaves}
use Rattle.spe_transactions.proofs.end.commit_leaves.Goals as goal

pub returns : goal.returns
returns c = record { leaves = commit_leaves }
