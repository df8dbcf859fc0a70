-- The line of a row from its record, column by column.
use Rattle.std.proofs.Common.{◌≡◌, ℕ, suc, ℤ, ◌+◌, ◌-◌, ◌<◌, ◌≤◌, ◌∙◌, true, false, nat_le, List, [], ◌∷◌, ◌++◌, length, Option, Some, None, Ok, Err, refl, sym, ap, subst, arith}
use Rattle.std.specs.Prelude.{replicate}
use Rattle.spe_model.specs.declared.value.Value.{Value}
use Rattle.spe_model.specs.declared.value.Value.TheVariants.{Null}
use Rattle.spe_model.specs.declared.table.TableDef.{TableDef}
use Rattle.spe_model.specs.declared.record.RecordFault.{RecordFault}
use Rattle.spe_model.specs.Database.{padded}
use Rattle.spe_model.specs.Record.{record_of}
use Rattle.spe_model.specs.Standing.{shown}
use Rattle.spe_record.specs.declared.fields.Field.{Field}
use Rattle.spe_record.specs.Fields.{field_seen, IsLedBy}
use Rattle.spe_render.specs.Passes.{Passes, PassesFront}
use Rattle.spe_render.specs.Stored.{put_at, PutsRow, row_by, row_of, shown_from}
use Rattle.spe_render.specs.Values.{barred, barred_value, row_text}
use Rattle.spe_render.proofs.PassesLemmas.{begins, ends, goes_on, nothing, printed}

abbrev nulls : ℕ → List Value
nulls n = replicate n Null

padded_led : (v : Value) (rest : List Value) (m k : ℕ) → m - length (v ∷ rest) ≡ k - length rest → padded (v ∷ rest) m ≡ v ∷ padded rest k
padded_led v rest m k e = ap (λ (n : ℕ). v ∷ (rest ++ nulls n)) e

abbrev no_values : List Value
no_values = []

padded_nothing : (m k : ℕ) → m ≡ k + 1 → padded no_values m ≡ Null ∷ padded no_values k
padded_nothing m k e =
    let one : m - length no_values ≡ suc (k - length no_values) = omega (arith, e) in
    ap nulls one

padded_end : (left : List Value) (count place : ℕ) → length left + place ≤ count → count ≤ place → padded left (count - place) ≡ []
padded_end [] count place few past =
    let out : count - place - length no_values ≡ 0 = omega (arith, past) in
    ap nulls out
padded_end (v ∷ vs) count place few past = absurd (omega (arith, few, past))

-- a column more
pad_turn : (alias : Option ℕ) (rowid : ℤ) (count place : ℕ) (left after : List Value) (field : Option Field) → IsLedBy left field after → place < count
    → shown_from alias place rowid (padded left (count - place)) ≡ put_at alias place rowid field ∷ shown_from alias (place + 1) rowid (padded after (count - (place + 1)))
pad_turn alias rowid count place left after None led more =
    let one : padded left (count - place) ≡ Null ∷ padded after (count - (place + 1))
    = rw (led.0, led.1) (padded_nothing (count - place) (count - (place + 1)) (omega (arith, more))) in
    ap (shown_from alias place rowid) one
pad_turn alias rowid count place left after (Some field) led more =
    let fewer : (count - place) - length (field_seen field ∷ after) ≡ (count - (place + 1)) - length after = omega arith in
    let one : padded left (count - place) ≡ field_seen field ∷ padded after (count - (place + 1))
    = ap (λ (l : List Value). padded l (count - place)) led ∙ padded_led (field_seen field) after (count - place) (count - (place + 1)) fewer in
    ap (shown_from alias place rowid) one

-- the values that are left from a place on
abbrev pub left_text : (alias : Option ℕ) (place : ℕ) → ℤ → List Value → (count : ℕ) → List ℕ
left_text alias place rowid left count = barred (shown_from alias place rowid (padded left (count - place)))

pub stored_begins : {t : Option (List ℕ)} {f : ℕ} {p : Option (List ℕ)} (table : TableDef) (rowid : ℤ) (values : List Value) (count : ℕ) → count ≡ length table.columns
    → PassesFront t t f f p p (barred (shown table rowid values)) (left_text table.alias 0 rowid values count)
stored_begins {t} {f} {p} table rowid values count all =
    let same : length table.columns ≡ count - 0 = omega (arith, all) in
    let Q : ℕ → Type 0 = λ n. PassesFront t t f f p p (barred (shown table rowid values)) (barred (shown_from table.alias 0 rowid (padded values n))) in
    subst Q same (begins (barred (shown table rowid values)))

pub stored_turn : {t u v : Option (List ℕ)} {i g h : ℕ} {p q r : Option (List ℕ)} {text : List ℕ} (alias : Option ℕ) (rowid : ℤ) (count place : ℕ) (left after : List Value) (field : Option Field) (shown : Field)
    → PassesFront t u i g p q text (left_text alias place rowid left count) → IsLedBy left field after → place < count → field_seen shown ≡ put_at alias place rowid field
    → Passes u v g h q r (barred_value (field_seen shown)) → PassesFront t v i h p r text (left_text alias (place + 1) rowid after count)
stored_turn {t} {u} {v} {i} {g} {h} {p} {q} {r} {text} alias rowid count place left after field shown front led more same gives =
    goes_on (subst (PassesFront t u i g p q text) (ap barred (pad_turn alias rowid count place left after field led more)) front) (printed (ap barred_value same) gives)

pub few_after : (count place : ℕ) (left after : List Value) (field : Option Field) → IsLedBy left field after → length left + place ≤ count → place < count → length after + (place + 1) ≤ count
few_after count place left after None led few more = let none = ap length led.1 in omega (arith, none, more)
few_after count place left after (Some field) led few more = let one = ap length led in omega (arith, one, few)

pub stored_end : {t u : Option (List ℕ)} {i g : ℕ} {p q : Option (List ℕ)} {text : List ℕ} (alias : Option ℕ) (rowid : ℤ) (count place : ℕ) (left : List Value)
    → PassesFront t u i g p q text (left_text alias place rowid left count) → length left + place ≤ count → count ≤ place → Passes t u i g p q text
stored_end {t} {u} {i} {g} {p} {q} {text} alias rowid count place left front few past =
    ends (subst (PassesFront t u i g p q text) (ap (λ (l : List Value). barred (shown_from alias place rowid l)) (padded_end left count place few past)) front)

-- a row, or none
le_yes : (a b : ℕ) → a ≤ b → nat_le a b ≡ true
le_yes a b h = grind arith

le_no : (a b : ℕ) → b < a → nat_le a b ≡ false
le_no a b h = grind arith

puts_none : (t : Option (List ℕ)) (f : ℕ) (p : Option (List ℕ)) (row : Option (ℤ × List Value)) → row ≡ None → PutsRow t t f f p p row false
puts_none t f p row is = rw is (refl, nothing)

pub damaged_none : (t : Option (List ℕ)) (f : ℕ) (p : Option (List ℕ)) (table : TableDef) (rowid : ℤ) (payload : List ℕ) (fault : RecordFault) → Err fault ≡ record_of payload
    → PutsRow t t f f p p (row_of table rowid payload) false
damaged_none t f p table rowid payload fault is = puts_none t f p (row_of table rowid payload) (ap (row_by table rowid) (sym is))

pub many_none : (t : Option (List ℕ)) (f : ℕ) (p : Option (List ℕ)) (table : TableDef) (rowid : ℤ) (payload : List ℕ) (values : List Value) → Ok values ≡ record_of payload
    → length table.columns < length values → PutsRow t t f f p p (row_of table rowid payload) false
many_none t f p table rowid payload values is many = puts_none t f p (row_of table rowid payload) (ap (row_by table rowid) (sym is) ∙ rw (le_no (length values) (length table.columns) many) refl)

puts_some : {t u : Option (List ℕ)} {f g : ℕ} {p q : Option (List ℕ)} (found : Option (ℤ × List Value)) (row : ℤ × List Value) → found ≡ Some row → Passes t u f g p q (row_text row) → PutsRow t u f g p q found true
puts_some found row is gives = rw is (refl, gives)

pub stored_some : {t u : Option (List ℕ)} {f g : ℕ} {p q : Option (List ℕ)} (table : TableDef) (rowid : ℤ) (payload : List ℕ) (values : List Value) → Ok values ≡ record_of payload
    → length values ≤ length table.columns → Passes t u f g p q (row_text (rowid, shown table rowid values)) → PutsRow t u f g p q (row_of table rowid payload) true
stored_some table rowid payload values is few gives =
    puts_some (row_of table rowid payload) (rowid, shown table rowid values)
    (ap (row_by table rowid) (sym is) ∙ rw (le_yes (length values) (length table.columns) few) refl) gives
