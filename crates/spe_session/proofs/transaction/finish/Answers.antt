use Rattle.spe_session.proofs.CauseLemmas.{no_break}
use Rattle.spe_session.proofs.transaction.finish.Goals as goal

pub returns-in-Rollback-clause-enters : goal.returns-in-Rollback-clause-enters
returns-in-Rollback-clause-enters g c = c.roll_back.ensures.enters c.args.turn.client c.args.turn.tx

pub returns-in-Rollback-clause-broken : goal.returns-in-Rollback-clause-broken
returns-in-Rollback-clause-broken g c = no_break c.args.turn.client c.args.turn.tx c.args.body _ _ _ c.roll_back.ensures.unbroken
