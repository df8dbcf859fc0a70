use Rattle.spe_serve.proofs.FileLemmas.{asks_outside, own_fault, pages_about, pages_answered}
use Rattle.spe_serve.proofs.pages.pages_reply.Goals as goal

pub returns-clause-reply : goal.returns-clause-reply
returns-clause-reply g c =
    rw (c.reply_or_failure.ensures, c.requires.told)
    (pages_answered g.K.Origin.told c.args.found.now _ _ _ c.args.command.now c.answer-reply.result c.found_pages.ensures
    c.new-space.ensures.size c.new-space.ensures.usable c.new-space.ensures.pages c.answer-reply.ensures.reply c.answer-reply.ensures.asks
    (asks_outside _ _ _ c.args.found.now.pages c.answer-reply.result c.answer-reply.ensures.kept c.new-space.ensures.pages c.answer-reply.ensures.refusal c.into_disk-disk.ensures.missing))

pub returns-clause-about : goal.returns-clause-about
returns-clause-about g c =
    rw c.reply_or_failure.ensures
    (pages_about c.args.command.now c.args.found.now.pages c.answer-reply.result c.requires.reads c.answer-reply.ensures.about c.answer-reply.ensures.fault
    (asks_outside _ _ _ c.args.found.now.pages c.answer-reply.result c.answer-reply.ensures.kept c.new-space.ensures.pages c.answer-reply.ensures.refusal c.into_disk-disk.ensures.missing))

pub reply_or_failure-requires : goal.reply_or_failure-requires
reply_or_failure-requires g c = record { own = own_fault _ _ _ c.answer-reply.result c.answer-reply.ensures.kept c.answer-reply.ensures.refusal c.into_disk-disk.ensures.own }
