use Rattle.std.proofs.Common.{◌∙◌, sym}
use Rattle.spe_slow.proofs.AnswersLemmas.{refused_by_table, left_to_rows}
use Rattle.spe_slow.proofs.answers.answer.Goals as goal

pub returns-in-Some-clause-answer : goal.returns-in-Some-clause-answer
returns-in-Some-clause-answer c = refused_by_table c.args.table.now c.args.rows.now.entries c.args.statement.now c.in-Some.refusal (sym c.rowless_refusal.ensures ∙ c.in-Some.is)

pub returns-in-None-clause-answer : goal.returns-in-None-clause-answer
returns-in-None-clause-answer c =
    let e = left_to_rows c.args.table.now c.args.rows.now.entries c.args.statement.now (sym c.rowless_refusal.ensures ∙ c.in-None.is) in
    rw e at c.carry_out.ensures.answer
