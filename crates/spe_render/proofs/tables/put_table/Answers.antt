use Rattle.spe_render.proofs.PassesLemmas.{then}
use Rattle.spe_render.proofs.tables.put_table.Goals as goal

pub returns : goal.returns
returns g c = then c.put_rows.ensures c.put_count.ensures
