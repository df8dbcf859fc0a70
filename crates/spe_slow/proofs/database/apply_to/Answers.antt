use Rattle.std.proofs.Common.{sym, ◌∙◌}
use Rattle.spe_slow.specs.Tables.{held_rows}
use Rattle.spe_slow.proofs.AppliedLemmas.{placed, refused_before, applied, applied_not}
use Rattle.spe_slow.proofs.database.apply_to.Goals as goal

pub returns-in-Err-clause-meaning : goal.returns-in-Err-clause-meaning
returns-in-Err-clause-meaning c =
    refused_before c.args.kind c.args.tables.now (held_rows c.args.rows.now) c.args.statement.now c.in-Err.refusal (sym c.table_for.ensures.place ∙ c.in-Err.is)

pub returns-in-Ok-clause-meaning : goal.returns-in-Ok-clause-meaning
returns-in-Ok-clause-meaning c =
    let found = placed c.args.kind c.args.tables.now c.args.statement.now c.in-Ok.place (sym c.table_for.ensures.place ∙ c.in-Ok.is) in
    applied c.answer.result c.args.kind c.args.statement.now c.args.tables.now c.args.rows.now c.in-Ok.place c.index-tables-place.result c.index-rows-place.result c.answer.new.rows
    c.requires found.1 c.index-tables-place.is c.index-rows-place.is found.0 (rw (← c.index-rows-place.is) at c.answer.ensures.answer)

pub returns-in-Ok-clause-err : goal.returns-in-Ok-clause-err
returns-in-Ok-clause-err c =
    applied_not c.answer.result c.args.rows.now c.in-Ok.place c.index-rows-place.result c.answer.new.rows c.index-rows-place.is (rw (← c.index-rows-place.is) at c.answer.ensures.err)
