use Rattle.std.proofs.Common.{◌≡◌, ◌∙◌, sym, ap, rules, Ok, Err, to_z, of_z, w64, to_z-of_z}
use Rattle.spe_model.specs.Assigned.{assignments, given_rowid}
use Rattle.spe_slow.specs.Answers.{rows_answer, rowid_for, inserted_at}
use Rattle.spe_slow.proofs.RowsAnswerLemmas.{inserted_by}
use Rattle.spe_slow.proofs.answers.insert.Goals as goal

pub returns-in-Ok-clause-answer : goal.returns-in-Ok-clause-answer
returns-in-Ok-clause-answer c =
    let table = c.args.table.now in
    let rows = c.args.rows.now.entries in
    let s = c.args.statement.now in
    let same : to_z w64 (of_z w64 c.in-Ok.rowid) ≡ c.in-Ok.rowid = to_z-of_z {w = w64} {z = c.in-Ok.rowid} (search rules) in
    let found : Ok c.in-Ok.rowid ≡ rowid_for rows (given_rowid (assignments table s)) = sym c.in-Ok.is ∙ c.rowid_for.ensures ∙ ap (rowid_for rows) c.given_rowid.ensures in
    let e : inserted_at table rows s c.in-Ok.rowid ≡ rows_answer table rows s = inserted_by table rows s (Ok c.in-Ok.rowid) c.requires found in
    rw e at (rw same at c.insert_at.ensures.answer)

pub returns-in-Err-clause-answer : goal.returns-in-Err-clause-answer
returns-in-Err-clause-answer c =
    let table = c.args.table.now in
    let rows = c.args.rows.now.entries in
    let s = c.args.statement.now in
    inserted_by table rows s (Err c.in-Err.refusal) c.requires (sym c.in-Err.is ∙ c.rowid_for.ensures ∙ ap (rowid_for rows) c.given_rowid.ensures)
