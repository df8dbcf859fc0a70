use Rattle.spe_session.proofs.EventLemmas.{begins_alone}
use Rattle.spe_session.proofs.alone.alone_law.Goals as goal

pub returns-clause-begins : goal.returns-clause-begins
returns-clause-begins c = begins_alone
