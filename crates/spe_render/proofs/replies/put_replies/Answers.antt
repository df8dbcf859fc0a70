use Rattle.std.proofs.Common.{refl}
use Rattle.spe_render.specs.Replies.{replies_text, reply_text}
use Rattle.spe_render.proofs.PassesLemmas.{turn}
use Rattle.spe_render.proofs.replies.put_replies.Goals as goal

pub loop-left-preserved : goal.loop-left-preserved
loop-left-preserved g c =
    turn replies_text reply_text c.loop-left.left.now c.reply-item.result _ (λ y ys. refl) c.loop-left.invariant c.in-len1-up.len_at_least c.reply-item.is c.put_reply.ensures
