use Rattle.std.proofs.Common.{refl, arith, ap, ◌∙◌}
use Rattle.spe_journal.specs.declared.text.JournalText.TheVariants.{Hot}
use Rattle.spe_journal.proofs.TextLemmas.{text_of-kind}
use Rattle.spe_journal.proofs.WrittenLemmas.{text_of-written}
use Rattle.spe_journal.proofs.text.JournalText.read.Goals as goal

pub returns-in-Cold-clause-text : goal.returns-in-Cold-clause-text
returns-in-Cold-clause-text c = rw (text_of-kind c.args.page_size c.args.bytes.now, ← c.in-Cold.ensures.kind) refl

pub returns-in-OtherSize-clause-text : goal.returns-in-OtherSize-clause-text
returns-in-OtherSize-clause-text c = rw (text_of-kind c.args.page_size c.args.bytes.now, ← c.in-OtherSize.ensures.kind) refl

pub returns-in_ok-found-in-Hot-clause-text : goal.returns-in_ok-found-in-Hot-clause-text
returns-in_ok-found-in-Hot-clause-text c =
    rw (text_of-kind c.args.page_size c.args.bytes.now, ← c.in-Hot.ensures.kind, c.in-Hot.ensures.saves, ← c.split_at.ensures.back)
    (ap Hot (c.new.ensures ∙ c.in_ok-found-in-Hot.ensures.saved))

pub returns-in-Cold-clause-written : goal.returns-in-Cold-clause-written
returns-in-Cold-clause-written c = λ saved written. returns-in-Cold-clause-text c ∙ text_of-written c.args.page_size saved c.args.bytes.now (omega arith) written

pub returns-in-OtherSize-clause-written : goal.returns-in-OtherSize-clause-written
returns-in-OtherSize-clause-written c = λ saved written. returns-in-OtherSize-clause-text c ∙ text_of-written c.args.page_size saved c.args.bytes.now (omega arith) written

pub returns-in_ok-found-in-Hot-clause-written : goal.returns-in_ok-found-in-Hot-clause-written
returns-in_ok-found-in-Hot-clause-written c = λ saved written. returns-in_ok-found-in-Hot-clause-text c ∙ text_of-written c.args.page_size saved c.args.bytes.now (omega arith) written
