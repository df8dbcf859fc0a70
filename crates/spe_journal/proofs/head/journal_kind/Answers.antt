use Rattle.std.proofs.Common.{sym, ◌∙◌}
use Rattle.spe_journal.proofs.KindLemmas.{hot_records-kind, kind_of-append, kind_of-long, saves-append}
use Rattle.spe_journal.proofs.head.journal_kind.Goals as goal

pub returns-clause-long : goal.returns-clause-long
returns-clause-long c = λ nonce hot. kind_of-long c.args.page_size nonce c.args.journal.now (sym c.kind_of.ensures ∙ hot)

pub returns-clause-saves : goal.returns-clause-saves
returns-clause-saves c = rw c.kind_of.ensures (hot_records-kind c.args.page_size c.args.journal.now)

pub returns-clause-front : goal.returns-clause-front
returns-clause-front c = λ long behind. rw c.kind_of.ensures (kind_of-append c.args.page_size c.args.journal.now behind long)

pub returns-clause-front_saves : goal.returns-clause-front_saves
returns-clause-front_saves c = λ long behind. rw c.kind_of.ensures (saves-append c.args.page_size c.args.journal.now behind long)
