use Rattle.std.proofs.Common.{◌∙◌, sym, ap, List, length, not}
use Rattle.std.specs.Prelude.{filter}
use Rattle.spe_model.specs.declared.statement.Cond.{Cond}
use Rattle.spe_model.specs.declared.reply.Reply.{Reply}
use Rattle.spe_model.specs.declared.reply.Reply.TheVariants as replies
use Rattle.spe_model.specs.Database.{Row}
use Rattle.spe_model.specs.Conditions.{is_chosen, chosen}
use Rattle.spe_slow.specs.Answers.{rows_answer}
use Rattle.spe_slow.proofs.RowsAnswerLemmas.{selected_rows, counted_rows, deleted_rows, with_reply}
use Rattle.spe_slow.proofs.answers.carry_out.Goals as goal

pub returns-in-Select-clause-answer : goal.returns-in-Select-clause-answer
returns-in-Select-clause-answer c =
    let table = c.args.table.now in
    let rows = c.args.rows.now.entries in
    let h = rw (c.as_slice.ensures, c.as_slice-in-Select.ensures) at c.select.ensures in
    with_reply c.select.result rows _ _ (selected_rows table rows c.in-Select.table c.in-Select.all c.in-Select.columns c.in-Select.conds ∙ ap (rows_answer table rows) (sym c.in-Select.is)) h

pub returns-in-Count-clause-answer : goal.returns-in-Count-clause-answer
returns-in-Count-clause-answer c =
    let table = c.args.table.now in
    let rows = c.args.rows.now.entries in
    let count = c.chosen_count.ensures ∙ ap (λ (conds : List Cond). length (chosen conds rows)) c.as_slice-in-Count.ensures in
    ap (λ n. (rows, replies.Count n)) count ∙ counted_rows table rows c.in-Count.table c.in-Count.conds ∙ ap (rows_answer table rows) (sym c.in-Count.is)

pub returns-in-Delete-clause-answer : goal.returns-in-Delete-clause-answer
returns-in-Delete-clause-answer c =
    let table = c.args.table.now in
    let rows = c.args.rows.now.entries in
    let left = rw c.as_slice-in-Delete.ensures at c.delete.ensures.rows in
    let reply = rw c.as_slice-in-Delete.ensures at c.delete.ensures.reply in
    ap (λ (after : List Row). (after, c.delete.result)) left ∙ ap (λ (r : Reply). (filter (λ (x : Row). not (is_chosen c.in-Delete.conds x.0)) rows, r)) reply
    ∙ deleted_rows table rows c.in-Delete.table c.in-Delete.conds ∙ ap (rows_answer table rows) (sym c.in-Delete.is)
