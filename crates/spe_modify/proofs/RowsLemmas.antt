-- The rows of a table where its tree has one more, or another payload in one.
use Rattle.std.proofs.Common.{◌≡◌, ℕ, ℤ, ◌+◌, ◌<◌, inl, inr, Bool, true, false, ◌||◌, List, [], ◌∷◌, ◌++◌, filter, Option, Some, None, is_some, refl, sym, ap, ◌∙◌, subst, arith}
use Rattle.std.specs.Prelude.{int_lt, nat_lt, if◌then◌else◌}
use Rattle.std.specs.Ordering.{int_eq}
use lib.Signed.{mag}
use Rattle.std.proofs.lemmas.Bool.{cases_Bool, ltb-true}
use Rattle.spe_model.specs.declared.table.TableDef.{TableDef}
use Rattle.spe_model.specs.Database.{Row}
use Rattle.spe_model.specs.Rows.{with_row}
use Rattle.spe_model.specs.Standing.{AreTableRows, IsTableRow}
use Rattle.spe_model.specs.Tree.{rank, row_at}
use Rattle.spe_cut.specs.Changed.{with_payload}
use Rattle.spe_cut.specs.Rows.{with_row as with_stored}
use Rattle.spe_cut.proofs.OrderLemmas.{lower_rank}
use Rattle.spe_slow.specs.Answers.{is_taken}
use Rattle.spe_modify.specs.Row.{with_changed}
use Rattle.spe_modify.proofs.OrderLemmas.{Ascend, lower_other, not_lower}

-- a row has the rowid under which it is stored
pub same_rowid : (table : TableDef) (x : ℤ × List ℕ) (r : Row) → IsTableRow table x r → r.0 ≡ x.0
same_rowid table x r is = ap (λ (row : Row). row.0) is.3

taken_step : (b : Bool) (payload : List ℕ) (found : Option (List ℕ)) (rest : Bool) → rest ≡ is_some found → (b || rest) ≡ is_some (if b then Some payload else found)
taken_step true payload found rest e = refl
taken_step false payload found rest e = e

-- a rowid is taken where a row is stored under it
pub taken_is : (table : TableDef) (rowid : ℤ) (xs : List (ℤ × List ℕ)) (rs : List Row) → AreTableRows table xs rs → is_taken rs rowid ≡ is_some (row_at rowid xs)
taken_is table rowid [] [] are = refl
taken_is table rowid [] (r ∷ rs) are = absurd are
taken_is table rowid (x ∷ xs) [] are = absurd are
taken_is table rowid (x ∷ xs) (r ∷ rs) are =
    ap (λ (k : ℤ). int_eq k rowid || is_taken rs rowid) (same_rowid table x r are.0)
    ∙ taken_step (int_eq x.0 rowid) x.1 (row_at rowid xs) (is_taken rs rowid) (taken_is table rowid xs rs are.1)

-- all rows from a bound on are above a rowid below it
none_lower : (table : TableDef) (rowid : ℤ) (low : ℕ) (xs : List (ℤ × List ℕ)) (rs : List Row) → rank rowid < low → Ascend low xs → AreTableRows table xs rs
    → filter (λ (r : Row). int_lt r.0 rowid) rs ≡ []
none_lower table rowid low [] [] below up are = refl
none_lower table rowid low [] (r ∷ rs) below up are = absurd are
none_lower table rowid low (x ∷ xs) [] below up are = absurd are
none_lower table rowid low (x ∷ xs) (r ∷ rs) below up are =
    let past : int_lt r.0 rowid ≡ false =
    ap (λ (k : ℤ). int_lt k rowid) (same_rowid table x r are.0) ∙ not_lower rowid x.0 (lower_rank rowid x.0 (omega (arith, below, up.0))) in
    rw past (none_lower table rowid (rank x.0 + 1) xs rs (omega (arith, below, up.0)) up.1 are.1)

all_higher : (table : TableDef) (rowid : ℤ) (low : ℕ) (xs : List (ℤ × List ℕ)) (rs : List Row) → rank rowid < low → Ascend low xs → AreTableRows table xs rs
    → filter (λ (r : Row). int_lt rowid r.0) rs ≡ rs
all_higher table rowid low [] [] below up are = refl
all_higher table rowid low [] (r ∷ rs) below up are = absurd are
all_higher table rowid low (x ∷ xs) [] below up are = absurd are
all_higher table rowid low (x ∷ xs) (r ∷ rs) below up are =
    let past : int_lt rowid r.0 ≡ true =
    ap (λ (k : ℤ). int_lt rowid k) (same_rowid table x r are.0) ∙ lower_rank rowid x.0 (omega (arith, below, up.0)) in
    rw past (ap (λ (rows : List Row). r ∷ rows) (all_higher table rowid (rank x.0 + 1) xs rs (omega (arith, below, up.0)) up.1 are.1))

-- a row among those that are below a rowid and those above it
abbrev between : ℤ → Row → List Row → List Row
between rowid new rows = filter (λ (r : Row). int_lt r.0 rowid) rows ++ new ∷ filter (λ (r : Row). int_lt rowid r.0) rows

-- the first row has another rowid, and so have all behind it
other_first : (b : Bool) (payload : List ℕ) (found : Option (List ℕ)) → (if b then Some payload else found) ≡ None → (b ≡ false) × (found ≡ None)
other_first true payload found e = absurd cc
other_first false payload found e = (refl, e)

put_between : (table : TableDef) (rowid : ℤ) (payload : List ℕ) (new : Row) (low : ℕ) (xs : List (ℤ × List ℕ)) (rs : List Row) → mag rowid < 9223372036854775808
    → IsTableRow table (rowid, payload) new → Ascend low xs → AreTableRows table xs rs → row_at rowid xs ≡ None
    → AreTableRows table (with_stored rowid payload xs) (between rowid new rs)
put_between table rowid payload new low [] [] fits is up are none = (is, tt)
put_between table rowid payload new low [] (r ∷ rs) fits is up are none = absurd are
put_between table rowid payload new low (x ∷ xs) [] fits is up are none = absurd are
put_between table rowid payload new low (x ∷ xs) (r ∷ rs) fits is up are none =
    let same = same_rowid table x r are.0 in
    let others = other_first (int_eq x.0 rowid) x.1 (row_at rowid xs) none in
    elim (cases_Bool (nat_lt (rank rowid) (rank x.0))) [
      | inl here ↦
          let below : rank rowid < rank x.0 = ltb-true (rank rowid) (rank x.0) here in
          let more : int_lt rowid x.0 ≡ true = lower_rank rowid x.0 below in
          let less : int_lt r.0 rowid ≡ false = ap (λ (k : ℤ). int_lt k rowid) same ∙ not_lower rowid x.0 more in
          let above : int_lt rowid r.0 ≡ true = ap (λ (k : ℤ). int_lt rowid k) same ∙ more in
          let next : rank rowid < rank x.0 + 1 = omega (arith, below) in
          let first = none_lower table rowid (rank x.0 + 1) xs rs next up.1 are.1 in
          let second = all_higher table rowid (rank x.0 + 1) xs rs next up.1 are.1 in
          rw (here, less, above, first, second) (is, are)
      | inr behind ↦
          let lower : int_lt x.0 rowid ≡ true = lower_other rowid x.0 fits behind others.0 in
          let less : int_lt r.0 rowid ≡ true = ap (λ (k : ℤ). int_lt k rowid) same ∙ lower in
          let above : int_lt rowid r.0 ≡ false = ap (λ (k : ℤ). int_lt rowid k) same ∙ not_lower x.0 rowid lower in
          rw (behind, less, above) (are.0, put_between table rowid payload new (rank x.0 + 1) xs rs fits is up.1 are.1 others.1)
    ]

-- stored rows and those of the table stay so with one more
pub rows_put : (table : TableDef) (rowid : ℤ) (payload : List ℕ) (new : Row) (low : ℕ) (xs : List (ℤ × List ℕ)) (rs : List Row) → mag rowid < 9223372036854775808
    → IsTableRow table (rowid, payload) new → Ascend low xs → AreTableRows table xs rs → row_at rowid xs ≡ None
    → AreTableRows table (with_stored rowid payload xs) (with_row new rs)
rows_put table rowid payload new low xs rs fits is up are none =
    subst (λ (k : ℤ). AreTableRows table (with_stored rowid payload xs) (between k new rs)) (sym (same_rowid table (rowid, payload) new is))
    (put_between table rowid payload new low xs rs fits is up are none)

-- and with another payload in one
pub rows_changed : (table : TableDef) (rowid : ℤ) (payload : List ℕ) (new : Row) (xs : List (ℤ × List ℕ)) (rs : List Row) → IsTableRow table (rowid, payload) new → AreTableRows table xs rs
    → AreTableRows table (with_payload rowid payload xs) (with_changed new rs)
rows_changed table rowid payload new [] [] is are = tt
rows_changed table rowid payload new [] (r ∷ rs) is are = absurd are
rows_changed table rowid payload new (x ∷ xs) [] is are = absurd are
rows_changed table rowid payload new (x ∷ xs) (r ∷ rs) is are =
    let same : int_eq r.0 new.0 ≡ int_eq x.0 rowid =
    ap (λ (k : ℤ). int_eq k new.0) (same_rowid table x r are.0) ∙ ap (λ (k : ℤ). int_eq x.0 k) (same_rowid table (rowid, payload) new is) in
    let rest = rows_changed table rowid payload new xs rs is are.1 in
    elim (cases_Bool (int_eq x.0 rowid)) [
      | inl here ↦ rw (same, here) (is, rest)
      | inr other ↦ rw (same, other) (are.0, rest)
    ]
