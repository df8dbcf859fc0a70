-- The records of rows that an UPDATE changes.
use Rattle.std.proofs.Common.{◌≡◌, inl, inr, ℕ, suc, ℤ, ◌+◌, ◌-◌, ◌≤◌, Bool, true, false, List, [], ◌∷◌, ◌++◌, All, length, map, Option, Some, None, Result, Ok, refl, sym, ap, ◌∙◌, subst, arith, append_assoc, replicate}
use Rattle.std.specs.Prelude.{nat_lt, if◌then◌else◌}
use Rattle.std.specs.List.{enumerate_from, list_any}
use Rattle.std.specs.Option.{unwrap_or}
use Rattle.std.proofs.lemmas.Bool.{cases_Bool, ltb-false}
use Rattle.std.proofs.lemmas.List.{append-nil, length-append, length-replicate}
use Rattle.std.proofs.lemmas.List.Elements.{All-cons, All-head, All-nil, All-tail}
use Rattle.spe_model.specs.declared.table.TableDef.{TableDef}
use Rattle.spe_model.specs.declared.value.Value.{Value}
use Rattle.spe_model.specs.declared.value.Value.TheVariants.{Int, Null}
use Rattle.spe_model.specs.Alias.{is_alias, with_alias}
use Rattle.spe_model.specs.Database.{Row, padded}
use Rattle.spe_model.specs.Length.{fields, record_length}
use Rattle.spe_model.specs.declared.record.RecordFault.{RecordFault}
use Rattle.spe_model.specs.Record.{record_of}
use Rattle.spe_model.specs.Refusals.{most_record}
use Rattle.spe_model.specs.Standing.{AreTableRows, IsTableRow, shown}
use Rattle.spe_slow.specs.Rows.{changed_values}
use Rattle.spe_modify.specs.declared.rows.StoredRow.{StoredRow}
use Rattle.spe_modify.specs.Rows.{IsShort}
use Rattle.spe_exec.specs.Changing.{AreRecords, IsFreeFrom, IsGathered, IsGathering, IsGiven, IsRecordFor, changed, is_long}
use Rattle.spe_exec.specs.Rows.{values_in}
use Rattle.spe_exec.proofs.RowsLemmas.{padded_done, row_is}

abbrev put_at : Option ℕ → Value → ℕ × Value → Value
put_at alias v x = if is_alias alias x.0 then v else x.1

-- the column that is another name of the rowid keeps its value
kept_first : (b : Bool) (v w x : Value) (g : Option Value) → (b ≡ true → g ≡ None)
    → (if b then v else (if b then w else unwrap_or g (if b then v else x))) ≡ unwrap_or g (if b then v else x)
kept_first true v w x g free = let none = free refl in rw none refl
kept_first false v w x g free = refl

alias_kept : (alias : Option ℕ) (v w : Value) (k : ℕ) (given : List (Option Value)) (xs : List Value) → IsFreeFrom alias k given
    → map (put_at alias v) (enumerate_from k (map (put_at alias w) (enumerate_from k (changed_values given (map (put_at alias v) (enumerate_from k xs))))))
    ≡ changed_values given (map (put_at alias v) (enumerate_from k xs))
alias_kept alias v w k [] xs free = refl
alias_kept alias v w k (g ∷ gs) [] free = refl
alias_kept alias v w k (g ∷ gs) (x ∷ xs) free =
    ap (λ (ys : List Value). (if is_alias alias k then v else (if is_alias alias k then w else unwrap_or g (if is_alias alias k then v else x))) ∷ ys)
    (alias_kept alias v w (k + 1) gs xs free.1)
    ∙ ap (λ (y : Value). y ∷ changed_values gs (map (put_at alias v) (enumerate_from (k + 1) xs))) (kept_first (is_alias alias k) v w x g free.0)

length_put : (alias : Option ℕ) (v : Value) (k : ℕ) (xs : List Value) → length (map (put_at alias v) (enumerate_from k xs)) ≡ length xs
length_put alias v k [] = refl
length_put alias v k (x ∷ xs) = ap suc (length_put alias v (k + 1) xs)

length_changed : (given : List (Option Value)) (xs : List Value) → length given ≡ length xs → length (changed_values given xs) ≡ length xs
length_changed [] [] e = refl
length_changed [] (x ∷ xs) e = absurd (omega (arith, e))
length_changed (g ∷ gs) [] e = refl
length_changed (g ∷ gs) (x ∷ xs) e = ap suc (length_changed gs xs (omega (arith, e)))

length_padded : (xs : List Value) (n : ℕ) → length xs ≤ n → length (padded xs n) ≡ n
length_padded xs n few = let a = length-append xs (replicate (n - length xs) Null) in let b = length-replicate (n - length xs) Null in omega (arith, a, b, few)

abbrev ok_values : List Value → Result (List Value) RecordFault
ok_values values = Ok values

abbrev pub nat_lt_of : TableDef → List Value → Bool
nat_lt_of table values = nat_lt most_record (record_length table.alias values)

-- the record reads back as the changed row
reads_as : (table : TableDef) (given : List (Option Value)) (rowid : ℤ) (bytes : List ℕ) (old : List Value) → IsGiven table given → length old ≤ length table.columns
    → record_of bytes ≡ Ok (fields table.alias (changed_values given (shown table rowid old)))
    → IsTableRow table (rowid, bytes) (rowid, changed_values given (shown table rowid old))
reads_as table given rowid bytes old is few read =
    let n = length table.columns in
    let values = shown table rowid old in
    let new = changed_values given values in
    let long : length values ≡ n = length_put table.alias (Int rowid) 0 (padded old n) ∙ length_padded old n few in
    let all : length new ≡ n = length_changed given values (is.each ∙ sym long) ∙ long in
    let written : length (fields table.alias new) ≡ n = length_put table.alias Null 0 new ∙ all in
    let whole : padded (fields table.alias new) n ≡ fields table.alias new = padded_done (fields table.alias new) n (omega (arith, written)) in
    let same : with_alias table.alias (Int rowid) (fields table.alias new) ≡ new = alias_kept table.alias (Int rowid) Null 0 given (padded old n) is.free in
    (fields table.alias new, read, omega (arith, written), ap (λ (vs : List Value). (rowid, vs)) (sym (ap (with_alias table.alias (Int rowid)) whole ∙ same)))

pub record_made : (table : TableDef) (given : List (Option Value)) (x : ℤ × List ℕ) (stored : StoredRow) (values new : List Value) → IsGiven table given → Some values ≡ values_in table x
    → new ≡ changed_values given values → stored.rowid ≡ x.0 → length stored.record ≡ record_length table.alias new → record_of stored.record ≡ Ok (fields table.alias new)
    → is_long table (x.0, new) ≡ false → (row : Row) → IsTableRow table x row → IsRecordFor table stored (changed given row)
record_made table given (rowid, payload) stored values new given_is found new_is key size read small row is = go is values new found new_is size read small
  where
    go : (is : IsTableRow table (rowid, payload) row) (values new : List Value) → Some values ≡ values_in table (rowid, payload) → new ≡ changed_values given values
        → length stored.record ≡ record_length table.alias new → record_of stored.record ≡ Ok (fields table.alias new) → is_long table (rowid, new) ≡ false → IsRecordFor table stored (changed given row)
    go is values new found new_is size read small =
        let held : Some row.1 ≡ Some values = row_is table (rowid, payload) row is ∙ sym found in
        let same : row.1 ≡ values = cc in
        let made : new ≡ changed_values given row.1 = new_is ∙ ap (changed_values given) (sym same) in
        let shown_is : row ≡ (rowid, shown table rowid is.0) = is.3 in
        let values_are : row.1 ≡ shown table rowid is.0 = ap (λ (r : Row). r.1) shown_is in
        let number : row.0 ≡ rowid = ap (λ (r : Row). r.0) shown_is in
        let all : new ≡ changed_values given (shown table rowid is.0) = made ∙ ap (changed_values given) values_are in
        let back : IsTableRow table (rowid, stored.record) (rowid, changed_values given (shown table rowid is.0)) =
        reads_as table given rowid stored.record is.0 given_is is.2 (read ∙ ap (λ (vs : List Value). ok_values (fields table.alias vs)) all) in
        record {
          size = size ∙ ap (record_length table.alias) made;
          small = ap (λ (vs : List Value). is_long table (rowid, vs)) (sym made) ∙ small;
          stands = subst (λ (k : ℤ). IsTableRow table (k, stored.record) (changed given row)) (sym key)
              (subst (λ (r : Row). IsTableRow table (rowid, stored.record) r) (ap (λ (vs : List Value). (rowid, vs)) (ap (changed_values given) (sym values_are)) ∙ ap (λ (k : ℤ). (k, changed_values given row.1)) (sym number)) back);
        }

-- a record that would be too long
pub long_made : (table : TableDef) (given : List (Option Value)) (x : ℤ × List ℕ) (values new : List Value) → Some values ≡ values_in table x → new ≡ changed_values given values
    → nat_lt_of table new ≡ true → (row : Row) → IsTableRow table x row → is_long table (changed given row) ≡ true
long_made table given x values new found new_is long row is =
    let held : Some row.1 ≡ Some values = row_is table x row is ∙ sym found in
    let same : row.1 ≡ values = cc in
    ap (nat_lt_of table) (ap (changed_values given) same ∙ sym new_is) ∙ long

-- a row that is damaged is none of the table
pub none_made : (table : TableDef) (x : ℤ × List ℕ) → None ≡ values_in table x → (row : Row) → IsTableRow table x row → ⊥
none_made table x none row is = let e : Some row.1 ≡ None = row_is table x row is ∙ sym none in absurd cc

-- all of them, one after the other

records_more : (table : TableDef) (made : List StoredRow) (front : List Row) (stored : StoredRow) (row : Row) → AreRecords table made front → IsRecordFor table stored row
    → AreRecords table (made ++ (stored ∷ [])) (front ++ (row ∷ []))
records_more table [] [] stored row are is = (is, tt)
records_more table [] (r ∷ rs) stored row are is = absurd are
records_more table (s ∷ ss) [] stored row are is = absurd are
records_more table (s ∷ ss) (r ∷ rs) stored row are is = (are.0, records_more table ss rs stored row are.1 is)

map_more : (f : Row → Row) (front : List Row) (row : Row) → map f (front ++ (row ∷ [])) ≡ map f front ++ (f row ∷ [])
map_more f [] row = refl
map_more f (r ∷ rs) row = ap (λ (xs : List Row). f r ∷ xs) (map_more f rs row)

pub gather_none : (table : TableDef) (given : List (Option Value)) (xs : List (ℤ × List ℕ)) → IsGathering table given xs xs []
gather_none table given xs rows are = record { front = []; others = rows; split = refl; are = are; records = tt }

-- the rows that are left begin with one of the first
gathered_more : (table : TableDef) (given : List (Option Value)) (rest : List (ℤ × List ℕ)) (x : ℤ × List ℕ) (made new : List StoredRow) (stored : StoredRow) (rows front others : List Row) → new ≡ made ++ (stored ∷ [])
    → ((row : Row) → IsTableRow table x row → IsRecordFor table stored (changed given row)) → rows ≡ front ++ others → AreTableRows table (x ∷ rest) others → AreRecords table made (map (changed given) front)
    → IsGathered table given rest new rows
gathered_more table given rest x made new stored rows front [] e one split are records = absurd are
gathered_more table given rest x made new stored rows front (r ∷ rs) e one split are records = record {
  front = front ++ (r ∷ []);
  others = rs;
  split = split ∙ sym (append_assoc front (r ∷ []) rs);
  are = are.1;
  records = subst (λ (ss : List StoredRow). AreRecords table ss (map (changed given) (front ++ (r ∷ [])))) (sym e)
      (subst (AreRecords table (made ++ (stored ∷ []))) (sym (map_more (changed given) front r))
      (records_more table made (map (changed given) front) stored (changed given r) records (one r are.0)));
}

pub gather_more : (table : TableDef) (given : List (Option Value)) (xs left rest : List (ℤ × List ℕ)) (x : ℤ × List ℕ) (made new : List StoredRow) (stored : StoredRow) → left ≡ x ∷ rest → new ≡ made ++ (stored ∷ [])
    → ((row : Row) → IsTableRow table x row → IsRecordFor table stored (changed given row)) → IsGathering table given xs left made → IsGathering table given xs rest new
gather_more table given xs left rest x made new stored l e one is rows are =
    let so = is rows are in
    gathered_more table given rest x made new stored rows so.front so.others e one so.split (subst (λ (ys : List (ℤ × List ℕ)). AreTableRows table ys so.others) l so.are) so.records

any_behind : (table : TableDef) (given : List (Option Value)) (front others : List Row) → list_any (is_long table) (map (changed given) others) ≡ true
    → list_any (is_long table) (map (changed given) (front ++ others)) ≡ true
any_behind table given [] others is = is
any_behind table given (r ∷ rs) others is = elim (cases_Bool (is_long table (changed given r))) [
  | inl long ↦ rw long refl
  | inr short ↦ rw short (any_behind table given rs others is)
]

long_by : (table : TableDef) (given : List (Option Value)) (rest : List (ℤ × List ℕ)) (x : ℤ × List ℕ) (rows front others : List Row) → ((row : Row) → IsTableRow table x row → is_long table (changed given row) ≡ true)
    → rows ≡ front ++ others → AreTableRows table (x ∷ rest) others → list_any (is_long table) (map (changed given) rows) ≡ true
long_by table given rest x rows front [] one split are = absurd are
long_by table given rest x rows front (r ∷ rs) one split are =
    let long = one r are.0 in
    ap (λ (all : List Row). list_any (is_long table) (map (changed given) all)) split ∙ any_behind table given front (r ∷ rs) (rw long refl)

pub gather_long : (table : TableDef) (given : List (Option Value)) (xs left rest : List (ℤ × List ℕ)) (x : ℤ × List ℕ) (made : List StoredRow) → left ≡ x ∷ rest
    → ((row : Row) → IsTableRow table x row → is_long table (changed given row) ≡ true) → IsGathering table given xs left made
    → (rows : List Row) → AreTableRows table xs rows → list_any (is_long table) (map (changed given) rows) ≡ true
gather_long table given xs left rest x made l one is rows are =
    let so = is rows are in
    long_by table given rest x rows so.front so.others one so.split (subst (λ (ys : List (ℤ × List ℕ)). AreTableRows table ys so.others) l so.are)

damage_by : (table : TableDef) (rest : List (ℤ × List ℕ)) (x : ℤ × List ℕ) (others : List Row) → ((row : Row) → IsTableRow table x row → ⊥) → AreTableRows table (x ∷ rest) others → ⊥
damage_by table rest x [] one are = absurd are
damage_by table rest x (r ∷ rs) one are = one r are.0

pub gather_damage : (table : TableDef) (given : List (Option Value)) (xs left rest : List (ℤ × List ℕ)) (x : ℤ × List ℕ) (made : List StoredRow) → left ≡ x ∷ rest
    → ((row : Row) → IsTableRow table x row → ⊥) → IsGathering table given xs left made → (rows : List Row) → AreTableRows table xs rows → ⊥
gather_damage table given xs left rest x made l one is rows are =
    let so = is rows are in damage_by table rest x so.others one (subst (λ (ys : List (ℤ × List ℕ)). AreTableRows table ys so.others) l so.are)

done_by : (table : TableDef) (given : List (Option Value)) (made : List StoredRow) (rows front others : List Row) → rows ≡ front ++ others → AreTableRows table [] others → AreRecords table made (map (changed given) front)
    → AreRecords table made (map (changed given) rows)
done_by table given made rows front [] split are records =
    subst (λ (rs : List Row). AreRecords table made (map (changed given) rs)) (sym (split ∙ append-nil front)) records
done_by table given made rows front (r ∷ rs) split are records = absurd are

pub gather_done : (table : TableDef) (given : List (Option Value)) (xs left : List (ℤ × List ℕ)) (made : List StoredRow) → left ≡ [] → IsGathering table given xs left made
    → (rows : List Row) → AreTableRows table xs rows → AreRecords table made (map (changed given) rows)
gather_done table given xs left made l is rows are =
    let so = is rows are in done_by table given made rows so.front so.others so.split (subst (λ (ys : List (ℤ × List ℕ)). AreTableRows table ys so.others) l so.are) so.records

-- records are short
pub short_made : (table : TableDef) (new : List Value) (bytes : List ℕ) → length bytes ≡ record_length table.alias new → nat_lt_of table new ≡ false → length bytes ≤ 2147483647
short_made table new bytes size small = let e = ltb-false most_record (record_length table.alias new) small in omega (arith, size, e)

pub short_more : (made new : List StoredRow) (stored : StoredRow) → new ≡ made ++ (stored ∷ []) → IsShort stored → All IsShort made → All IsShort new
short_more made new stored e one are = subst (All IsShort) (sym e) (more made are)
  where
    more : (xs : List StoredRow) → All IsShort xs → All IsShort (xs ++ (stored ∷ []))
    more [] all = All-cons IsShort stored [] one (All-nil IsShort)
    more (x ∷ xs) all = All-cons IsShort x (xs ++ (stored ∷ [])) (All-head IsShort x xs all) (more xs (All-tail IsShort x xs all))
