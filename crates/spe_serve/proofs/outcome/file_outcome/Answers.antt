use Rattle.spe_serve.proofs.OutcomeLemmas.{is_outcome}
use Rattle.spe_serve.proofs.MadeLemmas.{absent_for, attached_for, never_attached}
use Rattle.spe_serve.proofs.OwnLemmas.{attached_leaves, same_of}
use Rattle.spe_serve.proofs.outcome.file_outcome.Goals as goal

pub returns-in-Ok-true-clause-leaves : goal.returns-in-Ok-true-clause-leaves
returns-in-Ok-true-clause-leaves g c = attached_leaves c.args.command.now (g.D.Disk.told c.args.disk) _ _ c.attach.ensures.same c.file_reply-reply.ensures.leaves

pub returns-in-Ok-false-clause-leaves : goal.returns-in-Ok-false-clause-leaves
returns-in-Ok-false-clause-leaves g c = same_of c.args.command.now (g.D.Disk.told c.args.disk) _ c.attach.ensures.same

pub returns-in-Err-clause-leaves : goal.returns-in-Err-clause-leaves
returns-in-Err-clause-leaves g c = same_of c.args.command.now (g.D.Disk.told c.args.disk) _ c.attach.ensures.same

pub returns-in-Ok-true-clause-made : goal.returns-in-Ok-true-clause-made
returns-in-Ok-true-clause-made g c =
    attached_for c.args.command.now (g.D.Disk.told c.args.disk) _ _ _ _ c.attach.ensures.same c.answered.ensures c.file_reply-reply.ensures.made

pub returns-in-Ok-false-clause-made : goal.returns-in-Ok-false-clause-made
returns-in-Ok-false-clause-made g c =
    absent_for c.args.command.now (g.D.Disk.told c.args.disk) _ c.requires.built c.attach.ensures.same (rw (c.in-Ok-false.is, c.in-Ok-false.field-0-test) at c.attach.ensures.found)

pub returns-in-Err-clause-made : goal.returns-in-Err-clause-made
returns-in-Err-clause-made g c = never_attached c.args.command.now (g.D.Disk.told c.args.disk) _ c.attach.ensures.same

pub returns-in-Ok-true-clause-outcome : goal.returns-in-Ok-true-clause-outcome
returns-in-Ok-true-clause-outcome g c =
    rw c.answered.ensures
    (is_outcome g.D.Disk c.args.disk _ _ c.args.command.now c.file_reply-reply.result.0 c.requires.built (g.met.D.Disk.fresh c.args.disk c.requires.attached) c.attach.ensures.same
    (rw (c.in-Ok-true.is, c.in-Ok-true.field-0-test) at c.attach.ensures.found) c.file_reply-reply.ensures.reply c.file_reply-reply.ensures.about
    c.attach.ensures.cause.later c.attach.ensures.operations c.file_reply-reply.ensures.cause)
