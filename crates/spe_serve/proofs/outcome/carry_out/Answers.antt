use Rattle.spe_serve.proofs.MadeLemmas.{asked_for}
use Rattle.spe_serve.proofs.OutcomeLemmas.{is_asked}
use Rattle.spe_serve.proofs.OwnLemmas.{asked_leaves}
use Rattle.spe_serve.proofs.WordLemmas.{asked_lists}
use Rattle.spe_serve.proofs.RunEndingLemmas.{unread_is, unread_made}
use Rattle.spe_serve.proofs.outcome.carry_out.Goals as goal

pub returns-in-Ok-clause-outcome : goal.returns-in-Ok-clause-outcome
returns-in-Ok-clause-outcome g c = is_asked c.args._words.now c.in-Ok.command _ _ c.obey.result.0 (rw c.in-Ok.is at c.requires.read.command) c.obey.ensures.outcome

pub returns-in-Ok-clause-untouched : goal.returns-in-Ok-clause-untouched
returns-in-Ok-clause-untouched g c = λ none. absurd (none c.in-Ok.command (rw c.in-Ok.is at c.requires.read.command))

pub returns-in-Ok-clause-made : goal.returns-in-Ok-clause-made
returns-in-Ok-clause-made g c = asked_for c.args._words.now c.in-Ok.command _ _ c.obey.result.0 (rw c.in-Ok.is at c.requires.read.no_other) c.obey.ensures.made

pub returns-in-Ok-clause-leaves : goal.returns-in-Ok-clause-leaves
returns-in-Ok-clause-leaves g c = asked_leaves c.args._words.now c.in-Ok.command _ _ (rw c.in-Ok.is at c.requires.read.command) (rw c.in-Ok.is at c.requires.read.no_other) c.obey.ensures.leaves

pub obey-requires-clause-lists : goal.obey-requires-clause-lists
obey-requires-clause-lists g c = asked_lists c.args._words.now c.in-Ok.command (rw c.in-Ok.is at c.requires.read.command)

pub returns-in-Err-clause-outcome : goal.returns-in-Err-clause-outcome
returns-in-Err-clause-outcome g c = unread_is c.args._words.now c.args.asked.now _ _ c.in-Err.fault c.unread.result c.requires.read c.in-Err.is c.unread.ensures

pub returns-in-Err-clause-made : goal.returns-in-Err-clause-made
returns-in-Err-clause-made g c = λ d asks. unread_made c.args._words.now c.args.asked.now (g.D.Disk.told c.args.disk) c.in-Err.fault c.unread.result d c.requires.read c.in-Err.is c.unread.ensures asks
