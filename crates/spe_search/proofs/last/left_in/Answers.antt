use Rattle.spe_search.proofs.PlaceLemmas.{hole_there}
use Rattle.spe_search.proofs.last.left_in.Goals as goal

pub returns-in_default : goal.returns-in_default
returns-in_default c = λ within. hole_there c.args.view.now.cells c.args.place c.in_default.ensures within
