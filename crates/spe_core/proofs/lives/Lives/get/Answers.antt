use Rattle.std.proofs.Common.{◌∙◌, ap}
use Rattle.spe_core.specs.State.{live_in}
use Rattle.spe_core.proofs.LivesLemmas.{live_is}
use Rattle.spe_core.proofs.lives.Lives.get.Goals as goal

pub returns : goal.returns
returns c = c.get.ensures.value ∙ live_is c.args.id c.self.inside.map.entries ∙ ap (live_in c.args.id) c.self.view_is
