use Rattle.std.proofs.Common.{◌≡◌, ℕ, ℤ, List, length, subst, arith, to_z, of_z, w64, to_z-of_z}
use Rattle.spe_insert.specs.Insert.{most_pages}
use Rattle.spe_modify.specs.Row.{ChangesRow, LacksRowid, SparesOthers}
use Rattle.spe_modify.proofs.ManyLemmas.{passed, turned}
use Rattle.spe_modify.proofs.RowsLemmas.{same_rowid}
use Rattle.spe_modify.proofs.rows.turn.Goals as goal

pub returns-in-Ok-true-clause-turns : goal.returns-in-Ok-true-clause-turns
returns-in-Ok-true-clause-turns g c = λ pages t agrees is row stands.
    let s = c.args.space.now in
    let new = c.replace_row.new.space in
    let rowid = c.args.stored.now.rowid in
    let one : to_z w64 (of_z w64 rowid) ≡ rowid = grind (arith, to_z-of_z) in
    turned g.S.Pages s new pages t rowid c.args.stored.now.record row stands
    (subst (λ (z : ℤ). ChangesRow g.S.Pages s new pages t z c.args.stored.now.record) one
    (subst (λ (bytes : List ℕ). ChangesRow g.S.Pages s new pages t (to_z w64 (of_z w64 rowid)) bytes) c.as_slice.ensures
    (c.in-Ok-true.ensures.replaced c.in-Ok-true.field-0-test pages t agrees is)))

pub returns-in-Ok-true-clause-few : goal.returns-in-Ok-true-clause-few
returns-in-Ok-true-clause-few g c = λ pages t agrees is.
    subst (λ (bytes : List ℕ). SparesOthers g.S.Pages c.args.space.now c.replace_row.new.space pages t (length bytes)) c.as_slice.ensures (c.in-Ok-true.ensures.few pages t agrees is)

pub returns-in-Ok-false-clause-turns : goal.returns-in-Ok-false-clause-turns
returns-in-Ok-false-clause-turns g c = λ pages t agrees is row stands.
    let s = c.args.space.now in
    let new = c.replace_row.new.space in
    let rowid = c.args.stored.now.rowid in
    let one : to_z w64 (of_z w64 rowid) ≡ rowid = grind (arith, to_z-of_z) in
    passed g.S.Pages c.shifts_law.ensures.spares_more s new pages c.args.root t rowid row (most_pages (g.S.Pages.used s) (length c.args.stored.now.record)) is
    (same_rowid t.entry.table (rowid, c.args.stored.now.record) row stands)
    (subst (λ (z : ℤ). LacksRowid g.S.Pages s new pages t z) one (c.in-Ok-false.ensures.absent c.in-Ok-false.field-0-test pages t agrees is))

pub returns-in-Ok-false-clause-few : goal.returns-in-Ok-false-clause-few
returns-in-Ok-false-clause-few g c = λ pages t agrees is.
    subst (λ (bytes : List ℕ). SparesOthers g.S.Pages c.args.space.now c.replace_row.new.space pages t (length bytes)) c.as_slice.ensures (c.in-Ok-false.ensures.few pages t agrees is)

pub returns-in-Err-clause-few : goal.returns-in-Err-clause-few
returns-in-Err-clause-few g c = λ pages t agrees is.
    subst (λ (bytes : List ℕ). SparesOthers g.S.Pages c.args.space.now c.replace_row.new.space pages t (length bytes)) c.as_slice.ensures (c.in-Err.ensures.few pages t agrees is)
