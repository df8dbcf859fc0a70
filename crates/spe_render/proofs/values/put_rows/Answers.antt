use Rattle.std.proofs.Common.{refl}
use Rattle.spe_render.specs.Values.{rows_text, row_text}
use Rattle.spe_render.proofs.PassesLemmas.{turn}
use Rattle.spe_render.proofs.values.put_rows.Goals as goal

pub loop-left-preserved : goal.loop-left-preserved
loop-left-preserved g c =
    turn rows_text row_text c.loop-left.left.now c.row-item.result _ (λ y ys. refl) c.loop-left.invariant c.in-len1-up.len_at_least c.row-item.is c.put_row.ensures
