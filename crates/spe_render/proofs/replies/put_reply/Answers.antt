use Rattle.std.proofs.Common.{◌≡◌, ◌∙◌, ap, arith, of_z, sym, to_z, to_z-of_z, w64}
use Rattle.spe_render.specs.Replies.{inserted_reply, reply_text}
use Rattle.spe_render.proofs.PassesLemmas.{printed}
use Rattle.spe_render.proofs.replies.put_reply.Goals as goal

pub returns-in-Inserted : goal.returns-in-Inserted
returns-in-Inserted g c =
    let same : to_z w64 (of_z w64 c.in-Inserted.rowid) ≡ c.in-Inserted.rowid = grind (arith, to_z-of_z) in
    printed (ap inserted_reply same ∙ sym (ap reply_text c.in-Inserted.is)) c.put_inserted.ensures
