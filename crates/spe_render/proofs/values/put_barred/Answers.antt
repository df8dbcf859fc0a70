use Rattle.std.proofs.Common.{ap, refl}
use Rattle.spe_render.specs.Values.{barred, barred_value}
use Rattle.spe_render.proofs.PassesLemmas.{printed, turn}
use Rattle.spe_render.proofs.values.put_barred.Goals as goal

pub loop-left-preserved : goal.loop-left-preserved
loop-left-preserved g c =
    turn barred barred_value c.loop-left.left.now c.value-item.result _ (λ y ys. refl) c.loop-left.invariant c.in-len1-up.len_at_least c.value-item.is
    (printed (ap barred_value c.field_of.ensures) c.put_barred_field.ensures)
