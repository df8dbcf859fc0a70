use Rattle.std.proofs.Common.{ap, sym}
use Rattle.spe_render.specs.Values.{joined, value_text}
use Rattle.spe_render.proofs.PassesLemmas.{first_and_rest, printed, then}
use Rattle.spe_render.proofs.values.put_joined.Goals as goal

pub returns-in-len1-up : goal.returns-in-len1-up
returns-in-len1-up g c =
    printed (sym (ap joined (first_and_rest c.args.values.now c.value-item.result _ c.in-len1-up.len_at_least c.value-item.is)))
    (then (printed (ap value_text c.field_of.ensures) c.put_field.ensures) c.put_barred.ensures)
