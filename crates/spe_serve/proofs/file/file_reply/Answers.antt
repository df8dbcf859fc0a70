use Rattle.spe_serve.proofs.FileLemmas.{refused_reply, settled_reply}
use Rattle.spe_serve.proofs.MadeLemmas.{refused_for_all, rolled_for}
use Rattle.spe_serve.proofs.OwnLemmas.{are_found, kept_of, rolled_leaves}
use Rattle.spe_serve.proofs.file.file_reply.Goals as goal

pub found_reply-requires-clause-found : goal.found_reply-requires-clause-found
found_reply-requires-clause-found g c =
    are_found (g.D.Disk.told c.args.disk) _ c.in-Ok.found (rw c.in-Ok.is at c.recover-found.ensures.pages) (rw c.in-Ok.is at c.recover-found.ensures.settled) (rw c.in-Ok.is at c.recover-found.ensures.made)

pub returns-in-Ok-clause-reply : goal.returns-in-Ok-clause-reply
returns-in-Ok-clause-reply g c =
    settled_reply (g.D.Disk.told c.args.disk) _ c.in-Ok.found c.args.command.now c.found_reply.result.0 c.recovered_pages.ensures.headed
    (rw c.in-Ok.is at c.recover-found.ensures.pages) (rw (c.in-Ok.is, c.want_of-want.ensures) at c.recover-found.ensures.wanted) (rw c.in-Ok.is at c.recover-found.ensures.settled) c.recover-found.ensures.leaves c.found_reply.ensures.reply

pub returns-in-Err-clause-reply : goal.returns-in-Err-clause-reply
returns-in-Err-clause-reply g c =
    rw c.refused.ensures
    (refused_reply (g.D.Disk.told c.args.disk) c.in-Err.fault c.args.command.now c.recovered_pages.ensures.headed (rw (c.in-Err.is, c.want_of-want.ensures) at c.recover-found.ensures.refusal))

pub returns-in-Ok-clause-made : goal.returns-in-Ok-clause-made
returns-in-Ok-clause-made g c =
    rolled_for c.args.command.now (g.D.Disk.told c.args.disk) _ _ c.in-Ok.found _ c.requires.built c.recovered_pages.ensures.headed c.recovered_pages.ensures.whole
    (rw c.in-Ok.is at c.recover-found.ensures.pages) (rw (c.in-Ok.is, c.want_of-want.ensures) at c.recover-found.ensures.wanted) (rw c.in-Ok.is at c.recover-found.ensures.made) (rw c.in-Ok.is at c.recover-found.ensures.settled) c.found_reply.ensures.own

pub returns-in-Err-clause-made : goal.returns-in-Err-clause-made
returns-in-Err-clause-made g c =
    rw c.refused.ensures
    (refused_for_all c.args.command.now (g.D.Disk.told c.args.disk) _ c.in-Err.fault c.requires.built c.recovered_pages.ensures.headed
    (rw (c.in-Err.is, c.want_of-want.ensures) at c.recover-found.ensures.refusal) (rw c.in-Err.is at c.recover-found.ensures.untouched) c.recover-found.ensures.cut)

pub returns-in-Ok-clause-leaves : goal.returns-in-Ok-clause-leaves
returns-in-Ok-clause-leaves g c =
    rolled_leaves c.args.command.now (g.D.Disk.told c.args.disk) _ _ c.in-Ok.found _ c.recovered_pages.ensures.headed c.counts_law.ensures.stands (rw c.in-Ok.is at c.recover-found.ensures.limits)
    (rw c.in-Ok.is at c.recover-found.ensures.pages) (rw (c.in-Ok.is, c.want_of-want.ensures) at c.recover-found.ensures.wanted) (rw c.in-Ok.is at c.recover-found.ensures.settled) c.recover-found.ensures.leaves c.found_reply.ensures.own

pub returns-in-Err-clause-leaves : goal.returns-in-Err-clause-leaves
returns-in-Err-clause-leaves g c = kept_of c.args.command.now (g.D.Disk.told c.args.disk) _ c.recover-found.ensures.leaves
