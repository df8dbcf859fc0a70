use Rattle.spe_serve.proofs.RunLemmas.{same_opened}
use Rattle.spe_serve.proofs.run.serve_opened.Goals as goal

pub returns-in-Err-clause-same : goal.returns-in-Err-clause-same
returns-in-Err-clause-same g c = same_opened _ _ g.N.Opening.opened.first c.requires.same c.in-Err.ensures.same
