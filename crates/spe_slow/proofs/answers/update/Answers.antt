use Rattle.std.proofs.Common.{◌∙◌, sym, ap, map, length}
use Rattle.std.specs.Option.{option_copied}
use Rattle.spe_slow.proofs.RowsAnswerLemmas.{is_any_long, updated_not, updated}
use Rattle.spe_slow.proofs.answers.update.Goals as goal

pub returns-then-is_any_too_long-clause-answer : goal.returns-then-is_any_too_long-clause-answer
returns-then-is_any_too_long-clause-answer c =
    let rows = c.args.rows.now.entries in
    updated_not c.args.table.now rows c.args.statement.now (map option_copied c.in_ok-given.given.items) c.args.conds.now c.in_ok-changed.changed.items c.requires.update
    c.in_ok-given.ensures c.requires.conds
    (rw c.as_slice.ensures.value at c.in_ok-changed.ensures.rows)
    (sym c.if-is_any_too_long.true ∙ c.is_any_too_long.ensures ∙ ap (is_any_long c.args.table.now) c.as_slice-2.ensures.value)

pub returns-clause-answer : goal.returns-clause-answer
returns-clause-answer c =
    let rows = c.args.rows.now.entries in
    updated c.args.table.now rows c.write_rows.new.rows.entries c.args.statement.now (map option_copied c.in_ok-given.given.items) c.args.conds.now c.in_ok-changed.changed.items c.len-count.result
    c.requires.update c.in_ok-given.ensures c.requires.conds
    (rw c.as_slice.ensures.value at c.in_ok-changed.ensures.rows)
    (sym c.if-is_any_too_long.false ∙ c.is_any_too_long.ensures ∙ ap (is_any_long c.args.table.now) c.as_slice-2.ensures.value)
    c.in_ok-changed.ensures.ordered c.write_rows.ensures (c.len-count.ensures ∙ sym c.as_slice-2.ensures.len ∙ ap length c.as_slice-2.ensures.value)
