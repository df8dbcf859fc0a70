use Rattle.spe_render.proofs.PassesLemmas.{then}
use Rattle.spe_render.proofs.values.put_barred_field.Goals as goal

pub returns : goal.returns
returns g c = then c.byte.ensures c.put_field.ensures
