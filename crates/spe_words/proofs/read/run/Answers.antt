use Rattle.spe_words.proofs.CommandLemmas.{no_settings}
use Rattle.spe_words.proofs.read.run.Goals as goal

pub returns-in-None : goal.returns-in-None
returns-in-None c = no_settings c.args.found.now c.in-None.ensures.none
