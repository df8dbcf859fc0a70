-- The rows of a table after an UPDATE.
use Rattle.std.proofs.Common.{◌≡◌, inl, inr, ℕ, zero, suc, ℤ, ◌+◌, ◌<◌, Bool, true, false, ◌==◌, List, [], ◌∷◌, All, filter, length, map, Option, Some, None, refl, sym, ap, ◌∙◌, arith}
use Rattle.std.specs.Prelude.{if◌then◌else◌}
use Rattle.std.specs.List.{AllByRecursion, range_with_len, zip}
use Rattle.std.specs.List.Sorted.{IsStrictlySortedBy}
use Rattle.std.specs.Map.{keys_of}
use Rattle.std.specs.Option.{option_map_or}
use Rattle.std.specs.Ordering.{int_cmp, int_eq}
use Rattle.std.specs.declared.cmp.Ordering.TheVariants.{Less}
use Rattle.std.proofs.lemmas.Bool.{cases_Bool, eqb-true}
use Rattle.std.proofs.lemmas.Int.{ints}
use Rattle.std.proofs.lemmas.List.{length-map}
use Rattle.std.proofs.lemmas.List.Elements.{All-cons, All-head, All-nil, All-tail}
use Rattle.std.proofs.lemmas.List.FromFn.{length-range_with_len}
use Rattle.spe_model.specs.declared.naming.Named.{Named}
use Rattle.spe_model.specs.declared.naming.Named.TheVariants as named
use Rattle.spe_model.specs.declared.statement.Set.{Set}
use Rattle.spe_model.specs.declared.statement.Statement.{Statement}
use Rattle.spe_model.specs.declared.statement.Statement.TheVariants.{Select, Count, Insert, Update, Delete}
use Rattle.spe_model.specs.declared.table.TableDef.{TableDef}
use Rattle.spe_model.specs.declared.value.Value.{Value}
use Rattle.spe_model.specs.Alias.{is_alias}
use Rattle.spe_model.specs.Assigned.{assignments, by_column, given_to, given_values, places, targets}
use Rattle.spe_model.specs.Database.{Row}
use Rattle.spe_model.specs.Naming.{column_at, is_same, meant_by}
use Rattle.spe_model.specs.Standing.{AreTableRows}
use Rattle.spe_model.specs.Tree.{rank}
use Rattle.spe_modify.specs.Row.{with_changed}
use Rattle.spe_modify.specs.Rows.{with_all}
use Rattle.spe_modify.proofs.OrderLemmas.{Ascend, rank_less, rank_other}
use Rattle.spe_modify.proofs.RowsLemmas.{same_rowid}
use Rattle.spe_exec.specs.Changing.{IsFreeFrom, IsGiven}

-- nothing is given to the column that is another name of the rowid

abbrev IsNotTo : (place : ℕ) → Named → Type 0
IsNotTo place t = is_same t (named.Column place) ≡ false

column_not : (table : TableDef) (place q : ℕ) → is_alias table.alias place ≡ true → IsNotTo place (column_at table q)
column_not table place q is = by (is_alias table.alias q) refl
  where
    by : (b : Bool) → is_alias table.alias q ≡ b → IsNotTo place (if b then named.Rowid else named.Column q)
    by true e = refl
    by false e = elim (cases_Bool (q == place)) [
      | inl same ↦ (let one : q ≡ place = eqb-true q place same in let two : is_alias table.alias q ≡ true = ap (is_alias table.alias) one ∙ is in absurd (let no : false ≡ true = sym e ∙ two in cc))
      | inr other ↦ other
    ]

meant_not : (table : TableDef) (place : ℕ) (name : List ℕ) → is_alias table.alias place ≡ true → IsNotTo place (meant_by table name)
unfolding meant_by
meant_not table place name is = go _ _
  where
    go : (o : Option ℕ) (b : Bool) → IsNotTo place (option_map_or (column_at table) o (if b then named.Rowid else named.Nothing))
    go (Some q) b = column_not table place q is
    go None true = refl
    go None false = refl

all_names : {X : Type 0} (f : X → Named) (P : Named → Type 0) → ((x : X) → P (f x)) → (xs : List X) → All P (map f xs)
all_names f P each [] = All-nil P
all_names f P each (x ∷ xs) = All-cons P (f x) (map f xs) (each x) (all_names f P each xs)

targets_not : (table : TableDef) (place : ℕ) (s : Statement) → is_alias table.alias place ≡ true → All (IsNotTo place) (targets table s)
targets_not table place (Insert name true columns values) is = all_names (meant_by table) (IsNotTo place) (λ n. meant_not table place n is) columns
targets_not table place (Insert name false columns values) is = all_names (column_at table) (IsNotTo place) (λ q. column_not table place q is) (places table)
targets_not table place (Update name sets conds) is = all_names (λ (s : Set). meant_by table s.name) (IsNotTo place) (λ s. meant_not table place s.name is) sets
targets_not table place (Select name all columns conds) is = All-nil (IsNotTo place)
targets_not table place (Count name conds) is = All-nil (IsNotTo place)
targets_not table place (Delete name conds) is = All-nil (IsNotTo place)

never_given : (place : ℕ) (ts : List Named) (vs : List Value) → All (IsNotTo place) ts → given_to (named.Column place) (zip ts vs) ≡ None
never_given place [] vs not = refl
never_given place (t ∷ ts) [] not = refl
never_given place (t ∷ ts) (v ∷ vs) not = rw (All-head (IsNotTo place) t ts not) (never_given place ts vs (All-tail (IsNotTo place) t ts not))

free_from : (table : TableDef) (s : Statement) (n k : ℕ) → IsFreeFrom table.alias k (map (λ place. given_to (named.Column place) (assignments table s)) (range_with_len k n))
free_from table s zero k = tt
free_from table s (suc n) k = (
  λ is. never_given k (targets table s) (given_values s) (targets_not table k s is),
  free_from table s n (k + 1),
)

pub given_is : (table : TableDef) (s : Statement) → IsGiven table (by_column table (assignments table s))
given_is table s = record {
  free = free_from table s (length table.columns) 0;
  each = length-map (places table) (λ place. given_to (named.Column place) (assignments table s)) ∙ length-range_with_len 0 (length table.columns);
}

-- no two rows have one rowid

abbrev pub AreOthers : ℤ → List Row → Type 0
AreOthers k [] = Unit {0}
AreOthers k (r ∷ rs) = (int_eq r.0 k ≡ false) × (int_eq k r.0 ≡ false) × AreOthers k rs

abbrev pub AreDistinct : List Row → Type 0
AreDistinct [] = Unit {0}
AreDistinct (r ∷ rs) = AreOthers r.0 rs × AreDistinct rs

others_above : (table : TableDef) (k : ℤ) (low : ℕ) (xs : List (ℤ × List ℕ)) (rs : List Row) → rank k < low → Ascend low xs → AreTableRows table xs rs → AreOthers k rs
others_above table k low [] [] less up are = tt
others_above table k low [] (r ∷ rs) less up are = absurd are
others_above table k low (x ∷ xs) [] less up are = absurd are
others_above table k low (x ∷ xs) (r ∷ rs) less up are =
    let same = same_rowid table x r are.0 in
    let higher : rank k < rank x.0 = omega (arith, less, up.0) in (
      ap (λ (n : ℤ). int_eq n k) same ∙ rank_other x.0 k (inr higher),
      ap (λ (n : ℤ). int_eq k n) same ∙ rank_other k x.0 (inl higher),
      others_above table k (rank x.0 + 1) xs rs (omega (arith, higher)) up.1 are.1,
    )

pub distinct : (table : TableDef) (low : ℕ) (xs : List (ℤ × List ℕ)) (rs : List Row) → Ascend low xs → AreTableRows table xs rs → AreDistinct rs
distinct table low [] [] up are = tt
distinct table low [] (r ∷ rs) up are = absurd are
distinct table low (x ∷ xs) [] up are = absurd are
distinct table low (x ∷ xs) (r ∷ rs) up are =
    let same = same_rowid table x r are.0 in (
      others_above table r.0 (rank x.0 + 1) xs rs (let e = ap rank same in omega (arith, e)) up.1 are.1,
      distinct table (rank x.0 + 1) xs rs up.1 are.1,
    )

-- and they ascend
less_all : (table : TableDef) (k : ℤ) (low : ℕ) (xs : List (ℤ × List ℕ)) (rs : List Row) → rank k < low → Ascend low xs → AreTableRows table xs rs
    → AllByRecursion (λ y. int_cmp k y ≡ Less) (keys_of rs)
less_all table k low [] [] less up are = tt
less_all table k low [] (r ∷ rs) less up are = absurd are
less_all table k low (x ∷ xs) [] less up are = absurd are
less_all table k low (x ∷ xs) (r ∷ rs) less up are =
    let higher : rank k < rank x.0 = omega (arith, less, up.0) in (
      rw (same_rowid table x r are.0, rank_less k x.0 higher) refl,
      less_all table k (rank x.0 + 1) xs rs (omega (arith, higher)) up.1 are.1,
    )

pub sorted : (table : TableDef) (low : ℕ) (xs : List (ℤ × List ℕ)) (rs : List Row) → Ascend low xs → AreTableRows table xs rs → IsStrictlySortedBy int_cmp (keys_of rs)
unfolding IsStrictlySortedBy
sorted table low [] [] up are = tt
sorted table low [] (r ∷ rs) up are = absurd are
sorted table low (x ∷ xs) [] up are = absurd are
sorted table low (x ∷ xs) (r ∷ rs) up are =
    let same = same_rowid table x r are.0 in (
      less_all table r.0 (rank x.0 + 1) xs rs (let e = ap rank same in omega (arith, e)) up.1 are.1,
      sorted table (rank x.0 + 1) xs rs up.1 are.1,
    )

-- rows that are made of some of the rows take their places

same_stay : (row : Row) (rows : List Row) → AreOthers row.0 rows → with_changed row rows ≡ rows
same_stay row [] others = refl
same_stay row (r ∷ rs) others = rw (others.0) (ap (λ (xs : List Row). r ∷ xs) (same_stay row rs others.2))

past : (r : Row) (rows new : List Row) → AreOthers r.0 new → with_all new (r ∷ rows) ≡ r ∷ with_all new rows
past r rows [] others = refl
past r rows (n ∷ new) others = rw (others.1) (past r (with_changed n rows) new others.2)

others_made : (k : ℤ) (g : List Value → List Value) (p : Row → Bool) (rows : List Row) → AreOthers k rows → AreOthers k (map (λ (r : Row). (r.0, g r.1)) (filter p rows))
others_made k g p [] others = tt
others_made k g p (r ∷ rs) others = by (p r) (others_made k g p rs others.2)
  where
    by : (b : Bool) → AreOthers k (map (λ (x : Row). (x.0, g x.1)) (filter p rs)) → AreOthers k (map (λ (x : Row). (x.0, g x.1)) (if b then r ∷ filter p rs else filter p rs))
    by true rest = (others.0, others.1, rest)
    by false rest = rest

pub self_is : (k : ℤ) → int_eq k k ≡ true
self_is k = grind (arith, ints)

first_changed : (r : Row) (rows : List Row) (v : List Value) → AreOthers r.0 rows → with_changed (r.0, v) (r ∷ rows) ≡ (r.0, v) ∷ rows
first_changed r rows v others = rw (self_is r.0) (ap (λ (xs : List Row). (r.0, v) ∷ xs) (same_stay (r.0, v) rows others))

pub all_each : (g : List Value → List Value) (p : Row → Bool) (rows : List Row) → AreDistinct rows
    → with_all (map (λ (r : Row). (r.0, g r.1)) (filter p rows)) rows ≡ map (λ (r : Row). if p r then (r.0, g r.1) else r) rows
all_each g p [] are = refl
all_each g p (r ∷ rs) are = by (p r) (all_each g p rs are.1)
  where
    by : (b : Bool) → with_all (map (λ (x : Row). (x.0, g x.1)) (filter p rs)) rs ≡ map (λ (x : Row). if p x then (x.0, g x.1) else x) rs
        → with_all (map (λ (x : Row). (x.0, g x.1)) (if b then r ∷ filter p rs else filter p rs)) (r ∷ rs) ≡ (if b then (r.0, g r.1) else r) ∷ map (λ (x : Row). if p x then (x.0, g x.1) else x) rs
    by true rest =
        ap (with_all (map (λ (x : Row). (x.0, g x.1)) (filter p rs))) (first_changed r rs (g r.1) are.0)
        ∙ (past (r.0, g r.1) rs _ (others_made r.0 g p rs are.0) ∙ ap (λ (xs : List Row). (r.0, g r.1) ∷ xs) rest)
    by false rest = past r rs _ (others_made r.0 g p rs are.0) ∙ ap (λ (xs : List Row). r ∷ xs) rest
