use Rattle.spe_render.proofs.PassesLemmas.{then}
use Rattle.spe_render.proofs.replies.put_count.Goals as goal

pub returns : goal.returns
returns g c = then (then c.bytes.ensures c.number.ensures) c.byte.ensures
