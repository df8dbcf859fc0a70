use Rattle.std.proofs.Common.{◌∙◌}
use Rattle.spe_catalog.proofs.TableLemmas.{table_made}
use Rattle.spe_catalog.proofs.table.table_of.Goals as goal

pub returns : goal.returns
returns c = λ is_index rows attaches rooted.
    table_made is_index rows c.args.attached.now c.args.row.now c.args.is_rooted c.in_ok-is_understood.is_understood c.in_ok-declaration.declaration c.parts_of-columns.result
    c.in_ok-name.name c.as_str.result.now c.in_ok-closed.closed attaches rooted c.in_ok-declaration.ensures c.parts_of-columns.ensures (c.in_ok-name.ensures ∙ c.name-2.ensures)
    c.in_ok-is_understood.ensures c.in_ok-closed.ensures (c.as_str.ensures ∙ c.name.ensures)
