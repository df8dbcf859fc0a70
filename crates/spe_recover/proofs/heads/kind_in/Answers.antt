use Rattle.std.proofs.Common.{refl}
use Rattle.spe_recover.proofs.HeadLemmas.{kind_front, saves_front}
use Rattle.spe_recover.proofs.heads.kind_in.Goals as goal

pub returns-clause-kind : goal.returns-clause-kind
returns-clause-kind c = λ journal read count.
    kind_front c.args.page_size c.args.n c.args.head.now _ journal c.journal_kind.result refl read count c.journal_kind.ensures.kind c.journal_kind.ensures.front

pub returns-clause-saves : goal.returns-clause-saves
returns-clause-saves c = λ journal read count.
    saves_front c.args.page_size c.args.n c.args.head.now _ journal c.journal_kind.result refl read count c.journal_kind.ensures.saves c.journal_kind.ensures.front_saves
