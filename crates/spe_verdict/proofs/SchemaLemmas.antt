-- Marks of the rows of the schema.
use Rattle.std.proofs.Common.{◌≡◌, ℕ, ℤ, ◌+◌, ◌<◌, ◌≤◌, List, [], ◌∷◌, ◌++◌, length, map, refl, sym, ap, subst, ◌∙◌, arith, append_assoc, true, Option, Some, None, Result, Ok, Err}
use Rattle.std.specs.Prelude.{◌&&◌, not}
use Rattle.std.specs.List.{flat_map}
use Rattle.std.specs.Result.{result_ok}
use Rattle.std.proofs.lemmas.List.{append-nil}
use Rattle.spe_model.specs.declared.value.Value.{Value}
use Rattle.spe_model.specs.declared.value.Value.TheVariants.{Text}
use Rattle.spe_model.specs.declared.record.RecordFault.{RecordFault}
use Rattle.spe_model.specs.Cell.{◌>>=◌}
use Rattle.spe_model.specs.Record.{record_of}
use Rattle.spe_model.specs.Schema.{SchemaRow, have_own_names, is_table_row, root_in, schema_of, schema_row, schema_row_of, sql_in}
use Rattle.spe_model.specs.Tree.{rank}
use Rattle.spe_model.specs.Verdict.{LeafRow, before, fits, is_right_row, is_taken, schema_marks, with_leaf}
use Rattle.spe_verdict.proofs.ClimbLemmas.{Climbs, lower_rank}
use Rattle.spe_verdict.proofs.NameLemmas.{AreLower, before_is, has_twin, own_names_alone, own_names_more}
use Rattle.spe_verdict.proofs.NodeLemmas.{bind_some}
use Rattle.spe_verdict.proofs.ShapeLemmas.{placeless}
use Rattle.spe_verdict.proofs.TableLemmas.{OwnKept}

-- the rows of the schema, each with its leaf
abbrev pub placed_in : List LeafRow → List (ℕ × SchemaRow)
placed_in found = flat_map (λ (r : LeafRow). with_leaf r.0 (schema_row_of (r.1, r.2))) found

abbrev pub rows_in : List (ℕ × SchemaRow) → List SchemaRow
rows_in placed = map (λ (r : ℕ × SchemaRow). r.1) placed

five : (rowid : ℤ) (values : List Value) (row : SchemaRow) → schema_row rowid values ≡ Some row → (row.rowid ≡ rowid) × (length values ≡ 5)
five rowid (Text type ∷ Text name ∷ Text on ∷ root ∷ text ∷ []) row is =
    let rootpage = bind_some (root_in root) _ row is in
    let sql = bind_some (sql_in text) _ row rootpage.2 in
    let same : record { rowid = rowid; type = type; name = name; tbl_name = on; rootpage = rootpage.0; sql = sql.0 } ≡ row = cc in
    (sym (ap (λ (r : SchemaRow). r.rowid) same), refl)
five rowid _ row is = absurd cc

five_of : (found : Result (List Value) RecordFault) (rowid : ℤ) (row : SchemaRow) → (result_ok found >>= schema_row rowid) ≡ Some row → (row.rowid ≡ rowid) × (fits 5 found ≡ true)
five_of (Ok values) rowid row is = let both = five rowid values row is in (both.0, rw both.1 refl)
five_of (Err fault) rowid row is = absurd cc

row_of : (rowid : ℤ) (payload : List ℕ) (row : SchemaRow) → schema_row_of (rowid, payload) ≡ Some row → (row.rowid ≡ rowid) × (fits 5 (record_of payload) ≡ true)
row_of rowid payload row is = five_of (record_of payload) rowid row is

right_some : (rows : List SchemaRow) (found : Option SchemaRow) → is_right_row rows found ≡ true
    → (row : SchemaRow) × (found ≡ Some row) × (not (is_table_row row && is_taken rows row) ≡ true)
right_some rows None right = absurd cc
right_some rows (Some row) right = (row, refl, right)

pub schema_found : (rows : List SchemaRow) (found : List LeafRow) → OwnKept (schema_marks rows) found → schema_of (map placeless found) ≡ Some (rows_in (placed_in found))
schema_found rows [] kept = refl
schema_found rows (r ∷ rs) kept =
    let right = right_some rows (schema_row_of (r.1, r.2)) kept.0.1.0 in
    rw (right.1, schema_found rows rs kept.1) refl

pub schema_placed : (found : List LeafRow) (rows : List SchemaRow) → schema_of (map placeless found) ≡ Some rows → rows_in (placed_in found) ≡ rows
schema_placed [] rows is = cc
schema_placed (r ∷ rs) rows is =
    let first = bind_some (schema_row_of (r.1, r.2)) _ rows is in
    let others = bind_some (schema_of (map placeless rs)) _ rows first.2 in
    let all : first.0 ∷ others.0 ≡ rows = cc in
    rw (first.1, schema_placed rs others.0 others.1) all

-- the ranks of all these are below a bound
abbrev pub AreUnderRank : ℕ → List SchemaRow → Type 0
AreUnderRank low [] = Unit {0}
AreUnderRank low (r ∷ rs) = (rank r.rowid < low) × AreUnderRank low rs

under_more : (low : ℕ) (row : SchemaRow) (firsts : List SchemaRow) → low ≤ rank row.rowid → AreUnderRank low firsts → AreUnderRank (rank row.rowid + 1) (firsts ++ row ∷ [])
under_more low row [] le under = (omega arith, tt)
under_more low row (r ∷ rs) le under = let first = under.0 in (omega arith, under_more low row rs le under.1)

under_lower : (low : ℕ) (rowid : ℤ) (firsts : List SchemaRow) → low ≤ rank rowid → AreUnderRank low firsts → AreLower rowid firsts
under_lower low rowid [] le under = tt
under_lower low rowid (r ∷ rs) le under = (lower_rank r.rowid rowid (let first = under.0 in omega arith), under_lower low rowid rs le under.1)

-- the rows before one are those that were found before it
found_before : (low : ℕ) (rows firsts : List SchemaRow) (row : SchemaRow) (others : List SchemaRow)
    → rows ≡ firsts ++ row ∷ others → low ≤ rank row.rowid → AreUnderRank low firsts → is_taken rows row ≡ has_twin firsts row
found_before low rows firsts row others all le under =
    ap (λ (rs : List SchemaRow). has_twin rs row) (ap (before row.rowid) all ∙ before_is firsts row others (under_lower low row.rowid firsts le under))

pub schema_names : (rows firsts : List SchemaRow) (found : List LeafRow) (low high : ℕ)
    → Climbs low high (map placeless found) → AreUnderRank low firsts → have_own_names firsts ≡ true → rows ≡ firsts ++ rows_in (placed_in found)
    → OwnKept (schema_marks rows) found → have_own_names rows ≡ true
schema_names rows firsts [] low high climbs under own all kept = ap have_own_names (all ∙ append-nil firsts) ∙ own
schema_names rows firsts (r ∷ rs) low high climbs under own all kept =
    let right = right_some rows (schema_row_of (r.1, r.2)) kept.0.1.0 in
    let row = right.0 in
    let id : row.rowid ≡ r.1 = (row_of r.1 r.2 row right.1).0 in
    let le : low ≤ rank row.rowid = subst (λ (n : ℤ). low ≤ rank n) (sym id) climbs.0 in
    let others : rows ≡ firsts ++ right.0 ∷ rows_in (placed_in rs) = rw right.1 at all in
    let alone : not (is_table_row row && has_twin firsts row) ≡ true = rw (found_before low rows firsts row (rows_in (placed_in rs)) others le under) at right.2 in
    schema_names rows (firsts ++ row ∷ []) rs (rank row.rowid + 1) high
    (subst (λ (n : ℤ). Climbs (rank n + 1) high (map placeless rs)) (sym id) climbs.2)
    (under_more low row firsts le under) (own_names_more firsts row own alone) (others ∙ sym (append_assoc firsts (row ∷ []) (rows_in (placed_in rs)))) kept.1

pub schema_complete : (rows firsts : List SchemaRow) (found : List LeafRow) (named : List SchemaRow) (low high : ℕ)
    → Climbs low high (map placeless found) → AreUnderRank low firsts → rows ≡ firsts ++ named → schema_of (map placeless found) ≡ Some named
    → have_own_names rows ≡ true → OwnKept (schema_marks rows) found
schema_complete rows firsts [] named low high climbs under all is own = tt
schema_complete rows firsts (r ∷ rs) named low high climbs under all is own =
    let first = bind_some (schema_row_of (r.1, r.2)) _ named is in
    let rest = bind_some (schema_of (map placeless rs)) _ named first.2 in
    let row = first.0 in
    let whole : first.0 ∷ rest.0 ≡ named = cc in
    let facts = row_of r.1 r.2 row first.1 in
    let le : low ≤ rank row.rowid = subst (λ (n : ℤ). low ≤ rank n) (sym facts.0) climbs.0 in
    let others : rows ≡ firsts ++ row ∷ rest.0 = all ∙ ap (λ (rs : List SchemaRow). firsts ++ rs) (sym whole) in
    let alone : not (is_table_row row && is_taken rows row) ≡ true =
    rw (found_before low rows firsts row rest.0 others le under) (own_names_alone firsts row rest.0 (sym (ap have_own_names others) ∙ own)) in
    let right : is_right_row rows (schema_row_of (r.1, r.2)) ≡ true = ap (is_right_row rows) first.1 ∙ alone in (
      (facts.1, (right, tt)),
      schema_complete rows (firsts ++ row ∷ []) rs rest.0 (rank row.rowid + 1) high
          (subst (λ (n : ℤ). Climbs (rank n + 1) high (map placeless rs)) (sym facts.0) climbs.2)
          (under_more low row firsts le under) (others ∙ sym (append_assoc firsts (row ∷ []) rest.0)) rest.1 own,
    )
