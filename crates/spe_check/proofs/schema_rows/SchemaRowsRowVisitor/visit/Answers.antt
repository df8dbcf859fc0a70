use Rattle.std.proofs.Common.{◌≡◌, ◌∙◌, ℤ, Bool, List, [], ◌∷◌, ◌++◌, None, Some, ap, arith, of_z, sym, subst, to_z, to_z-of_z, w64}
use Rattle.spe_model.specs.declared.value.Value.{Value}
use Rattle.spe_model.specs.Record.{record_of}
use Rattle.spe_model.specs.Schema.{schema_row, schema_row_of}
use Rattle.spe_model.specs.Verdict.{fits, is_right_row}
use Rattle.spe_model.specs.Walk.{Keeps}
use Rattle.spe_check.specs.declared.halt.Halt.TheVariants.{Broken}
use Rattle.spe_check.specs.SchemaRows.{placed_of, rows_in}
use Rattle.spe_check.specs.Tries.{Tries}
use Rattle.spe_check.proofs.RowLemmas.{floor_next, free_is, on_ok, outlook_next, row_read}
use Rattle.spe_check.proofs.TriesLemmas.{keeps_breaks, tries_halt, tries_then, the_err}
use Rattle.spe_check.proofs.schema_rows.SchemaRowsRowVisitor.visit.Goals as goal

pub returns-in-Err-clause-tried : goal.returns-in-Err-clause-tried
returns-in-Err-clause-tried c = λ count met later low.
    let rows = rows_in (c.args.self.now.placed.items ++ placed_of ((c.args.leaf, c.args.rowid, c.args.payload.now) ∷ later)) in
    tries_halt (List Value) (Unit {0}) count met met met (Keeps c.args.leaf 8 (fits 5 (record_of c.args.payload.now)) ∷ [])
    (Keeps c.args.leaf 9 (is_right_row rows (schema_row_of (c.args.rowid, c.args.payload.now))) ∷ []) c.in-Err.halt (c.in-Err.ensures.tried count met)

pub returns-in-Some-clause-tried : goal.returns-in-Some-clause-tried
returns-in-Some-clause-tried c = λ count met later low.
    let same : to_z w64 (of_z w64 c.args.rowid) ≡ c.args.rowid = grind (arith, to_z-of_z) in
    let found = sym c.in-Some.is ∙ c.from_values.ensures.value ∙ ap (λ (z : ℤ). schema_row z c.into_vec.result.items) same ∙ ap (schema_row c.args.rowid) c.into_vec.ensures in
    let read = row_read c.args.rowid c.args.payload.now c.in-Ok.values (Some c.in-Some.row) c.in-Ok.ensures.values found in
    let rows = rows_in (c.args.self.now.placed.items ++ placed_of ((c.args.leaf, c.args.rowid, c.args.payload.now) ∷ later)) in
    let P : Bool → Type 0 = λ b. Tries count met met (Keeps c.args.leaf 9 b ∷ []) c.try_name.result in
    tries_then {X = List Value} {Y = Unit {0}} count met met met (Keeps c.args.leaf 8 (fits 5 (record_of c.args.payload.now)) ∷ [])
    (Keeps c.args.leaf 9 (is_right_row rows (schema_row_of (c.args.rowid, c.args.payload.now))) ∷ []) c.in-Ok.values c.try_name.result (c.in-Ok.ensures.tried count met)
    (subst P (free_is c.args.self.now.placed.items c.args.leaf c.args.rowid c.args.payload.now later c.in-Some.row read (c.in-Some.ensures.own ∙ same) low) (c.try_name.ensures.tried count met))

pub returns-in-Some-clause-next : goal.returns-in-Some-clause-next
returns-in-Some-clause-next c =
    let same : to_z w64 (of_z w64 c.args.rowid) ≡ c.args.rowid = grind (arith, to_z-of_z) in
    let found = sym c.in-Some.is ∙ c.from_values.ensures.value ∙ ap (λ (z : ℤ). schema_row z c.into_vec.result.items) same ∙ ap (schema_row c.args.rowid) c.into_vec.ensures in
    let read = row_read c.args.rowid c.args.payload.now c.in-Ok.values (Some c.in-Some.row) c.in-Ok.ensures.values found in
    on_ok c.try_name.result (λ more later. outlook_next c.args.self.now.placed.items c.try_name.new.self.placed.items c.args.leaf c.args.rowid c.args.payload.now later c.in-Some.row read more)
    c.try_name.ensures.kept

pub returns-in-Some-clause-above : goal.returns-in-Some-clause-above
returns-in-Some-clause-above c =
    let same : to_z w64 (of_z w64 c.args.rowid) ≡ c.args.rowid = grind (arith, to_z-of_z) in
    on_ok c.try_name.result (λ more low. floor_next c.args.self.now.placed.items c.try_name.new.self.placed.items c.args.leaf c.in-Some.row c.args.rowid more (c.in-Some.ensures.own ∙ same) low)
    c.try_name.ensures.kept

pub returns-in-None-clause-tried : goal.returns-in-None-clause-tried
returns-in-None-clause-tried c = λ count met later low.
    let same : to_z w64 (of_z w64 c.args.rowid) ≡ c.args.rowid = grind (arith, to_z-of_z) in
    let found = sym c.in-None.is ∙ c.from_values.ensures.value ∙ ap (λ (z : ℤ). schema_row z c.into_vec.result.items) same ∙ ap (schema_row c.args.rowid) c.into_vec.ensures in
    let read = row_read c.args.rowid c.args.payload.now c.in-Ok.values None c.in-Ok.ensures.values found in
    let rows = rows_in (c.args.self.now.placed.items ++ placed_of ((c.args.leaf, c.args.rowid, c.args.payload.now) ∷ later)) in
    tries_then {X = List Value} {Y = Unit {0}} count met met met (Keeps c.args.leaf 8 (fits 5 (record_of c.args.payload.now)) ∷ [])
    (Keeps c.args.leaf 9 (is_right_row rows (schema_row_of (c.args.rowid, c.args.payload.now))) ∷ []) c.in-Ok.values (the_err (Unit {0}) (Broken c.args.leaf 9)) (c.in-Ok.ensures.tried count met)
    (keeps_breaks count met c.args.leaf 9 (is_right_row rows (schema_row_of (c.args.rowid, c.args.payload.now))) (ap (is_right_row rows) read))
