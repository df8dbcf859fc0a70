use Rattle.std.proofs.Common.{sym, ◌∙◌}
use Rattle.spe_serve.proofs.BehindLemmas.{checked_refused, checked_sound, failed_own, refused_own, refused_writing}
use Rattle.spe_serve.proofs.writing.writing_reply.Goals as goal

pub returns-in-Err-clause-own : goal.returns-in-Err-clause-own
returns-in-Err-clause-own g c = failed_own c.args.command.now c.args.found.now (g.D.Disk.told c.args.disk) _ c.in-Err.failure c.pages_verdict-checked.ensures.same

pub returns-in-Some-clause-reply : goal.returns-in-Some-clause-reply
returns-in-Some-clause-reply g c =
    checked_refused c.args.command.now c.args.found.now (g.D.Disk.told c.args.disk) c.in-Ok.answered c.in-Some.refusal c.requires.writes (rw c.in-Ok.is at c.pages_verdict-checked.ensures.reply)
    (sym c.refusal_in.ensures ∙ c.in-Some.is)

pub returns-in-Some-clause-about : goal.returns-in-Some-clause-about
returns-in-Some-clause-about g c =
    refused_writing c.args.command.now c.in-Ok.answered c.in-Some.refusal c.requires.writes (rw c.in-Ok.is at c.pages_verdict-checked.ensures.about) (sym c.refusal_in.ensures ∙ c.in-Some.is)

pub returns-in-Some-clause-own : goal.returns-in-Some-clause-own
returns-in-Some-clause-own g c =
    refused_own c.args.command.now c.args.found.now (g.D.Disk.told c.args.disk) _ c.in-Ok.answered c.in-Some.refusal c.requires.writes c.pages_verdict-checked.ensures.same
    (rw c.in-Ok.is at c.pages_verdict-checked.ensures.reply) (sym c.refusal_in.ensures ∙ c.in-Some.is)

pub returns-in-None-clause-own : goal.returns-in-None-clause-own
returns-in-None-clause-own g c = rw c.pages_verdict-checked.ensures.same at c.sound_reply.ensures.own

pub sound_reply-requires-clause-sound : goal.sound_reply-requires-clause-sound
sound_reply-requires-clause-sound g c =
    rw c.pages_verdict-checked.ensures.same
    (checked_sound c.args.found.now (g.D.Disk.told c.args.disk) c.in-Ok.answered (rw c.in-Ok.is at c.pages_verdict-checked.ensures.reply) (sym c.refusal_in.ensures ∙ c.in-None.is))
