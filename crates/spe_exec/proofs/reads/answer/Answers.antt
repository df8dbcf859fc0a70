use Rattle.std.proofs.Common.{◌∙◌, sym}
use Rattle.spe_space.specs.Calls.{sight}
use Rattle.spe_exec.proofs.ReadsLemmas.{answer_open, answer_refused}
use Rattle.spe_exec.proofs.reads.answer.Goals as goal

pub returns-in-Some-clause-answer : goal.returns-in-Some-clause-answer
returns-in-Some-clause-answer g c = λ pages agrees rows holds.
    answer_refused c.args.entry.now.table c.args.statement.now rows c.in-Some.refusal (sym c.rowless_refusal.ensures ∙ c.in-Some.is)

pub returns-in-None-clause-answer : goal.returns-in-None-clause-answer
returns-in-None-clause-answer g c = λ pages agrees rows holds.
    answer_open (g.S.Pages.used c.args.space.now) (sight g.S.Pages c.args.space.now pages) c.args.entry.now c.args.statement.now rows c.read_rows.result c.requires.reads
    (sym c.rowless_refusal.ensures ∙ c.in-None.is) holds (λ of. c.read_rows.ensures.answer pages agrees rows of)
