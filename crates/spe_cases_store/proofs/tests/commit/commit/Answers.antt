use Rattle.spe_cases_store.proofs.NoneServed.{justified}
use Rattle.spe_cases_store.proofs.tests.commit.commit.Goals as goal

pub commit-requires-clause-right : goal.commit-requires-clause-right
commit-requires-clause-right c = justified _ _ _
