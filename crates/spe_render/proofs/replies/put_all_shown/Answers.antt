use Rattle.std.proofs.Common.{refl}
use Rattle.spe_render.specs.Replies.{all_shown, shown_text}
use Rattle.spe_render.proofs.PassesLemmas.{turn}
use Rattle.spe_render.proofs.replies.put_all_shown.Goals as goal

pub loop-left-preserved : goal.loop-left-preserved
loop-left-preserved g c =
    turn all_shown shown_text c.loop-left.left.now c.row-item.result _ (λ y ys. refl) c.loop-left.invariant c.in-len1-up.len_at_least c.row-item.is c.put_shown.ensures
