use Rattle.spe_session.proofs.CauseLemmas.{no_break}
use Rattle.spe_session.proofs.running.work.Goals as goal

pub returns-in-Err-clause-enters : goal.returns-in-Err-clause-enters
returns-in-Err-clause-enters g c = c.fail.ensures.enters c.args.passing.now.turn.client c.args.passing.now.turn.tx

pub returns-in-Err-clause-broken : goal.returns-in-Err-clause-broken
returns-in-Err-clause-broken g c = no_break c.args.passing.now.turn.client c.args.passing.now.turn.tx c.args.body _ _ _ c.fail.ensures.unbroken
