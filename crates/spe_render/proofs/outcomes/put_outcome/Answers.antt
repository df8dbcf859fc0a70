use Rattle.spe_render.proofs.PassesLemmas.{then}
use Rattle.spe_render.proofs.outcomes.put_outcome.Goals as goal

pub returns : goal.returns
returns g c = then (then c.put_number.ensures c.put_ending.ensures) c.byte.ensures
