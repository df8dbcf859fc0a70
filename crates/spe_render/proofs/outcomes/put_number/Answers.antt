use Rattle.spe_render.proofs.PassesLemmas.{then}
use Rattle.spe_render.proofs.outcomes.put_number.Goals as goal

pub returns : goal.returns
returns g c = then c.bytes.ensures c.number.ensures
