-- Rows in the ascending order of their rowids.
use Rattle.std.proofs.Common.{◌≡◌, ℕ, ◌-◌, ◌<◌, Bool, true≢false, true, false, ◌||◌, List, [], ◌∷◌, ◌++◌, map, length, refl, sym, ap, ◌∙◌, arith, Option, Some, None}
use Rattle.std.specs.Prelude.{ℤ, filter, int_lt, slice_get, is_some, if◌then◌else◌}
use Rattle.std.specs.List.{AllByRecursion, last_or}
use Rattle.std.specs.List.Sorted.{IsStrictlySortedBy}
use Rattle.std.specs.Option.{option_map}
use Rattle.std.specs.Ordering.{int_cmp, is_eq, match_ordering}
use Rattle.std.specs.declared.cmp.Ordering.TheVariants.{Less, Equal, Greater}
use Rattle.std.specs.Int.Signed.{◌<ℤ◌, ◌≤ℤ◌}
use Rattle.std.specs.Map.{keys_of, lookup, set_value}
use Rattle.std.specs.BTreeMap.{insert_entry, is_at}
use Rattle.std.proofs.lemmas.Int.{ints}
use Rattle.std.proofs.lemmas.Cmp.{int_ranked}
use Rattle.spe_model.specs.declared.value.Value.{Value}
use Rattle.spe_model.specs.Database.{Row}
use Rattle.spe_model.specs.Rows.{largest, with_row}
use Rattle.spe_slow.specs.Answers.{is_taken}
use Rattle.spe_slow.specs.Table.{with_written}

-- all rowids are above k
abbrev pub AllAbove : ℤ → List Row → Type 0
AllAbove k rows = AllByRecursion (λ y. k <ℤ y) (keys_of rows)

above_sorted : (k : ℤ) (rows : List Row) → AllByRecursion (λ y. int_cmp k y ≡ Less) (keys_of rows) → AllAbove k rows
above_sorted k [] s = tt
above_sorted k (r ∷ rows) s = (int_ranked k r.0 Less (sym s.0), above_sorted k rows s.1)

above_less : (j k : ℤ) (rows : List Row) → j ≤ℤ k → AllAbove k rows → AllAbove j rows
above_less j k [] l s = tt
above_less j k (r ∷ rows) l s = let h = s.0 in (omega (arith, ints), above_less j k rows l s.1)

-- none is below k, and all are above it
none_below : (k : ℤ) (rows : List Row) → AllAbove k rows → filter (λ (r : Row). int_lt r.0 k) rows ≡ []
none_below k [] s = refl
none_below k (r ∷ rows) s =
    let h = s.0 in
    let past : int_lt r.0 k ≡ false = grind (arith, ints) in
    rw past (none_below k rows s.1)

all_above : (k : ℤ) (rows : List Row) → AllAbove k rows → filter (λ (r : Row). int_lt k r.0) rows ≡ rows
all_above k [] s = refl
all_above k (r ∷ rows) s =
    let h = s.0 in
    let past : int_lt k r.0 ≡ true = grind (arith, ints) in
    rw past (ap (λ xs. r ∷ xs) (all_above k rows s.1))

put_first : (new r : Row) (rows : List Row) → new.0 ≤ℤ r.0 → AllAbove r.0 rows → new ∷ rows ≡ filter (λ (x : Row). int_lt x.0 new.0) rows ++ new ∷ filter (λ (x : Row). int_lt new.0 x.0) rows
put_first new r rows l s =
    let all = above_less new.0 r.0 rows l s in
    rw (none_below new.0 rows all, all_above new.0 rows all) refl

-- one is put in before, in the place of, or behind the first row
put_by : (k : ℤ) (v : List Value) (r : Row) (rows later : List Row) (a b : Bool) → int_lt k r.0 ≡ a → int_lt r.0 k ≡ b → AllAbove r.0 rows
    → later ≡ filter (λ (x : Row). int_lt x.0 k) rows ++ (k, v) ∷ filter (λ (x : Row). int_lt k x.0) rows
    → match_ordering (if a then Less else (if b then Greater else Equal)) ((k, v) ∷ r ∷ rows) ((r.0, v) ∷ rows) (r ∷ later)
    ≡ (if b then r ∷ filter (λ (x : Row). int_lt x.0 k) rows else filter (λ (x : Row). int_lt x.0 k) rows) ++ (k, v) ∷ (if a then r ∷ filter (λ (x : Row). int_lt k x.0) rows else filter (λ (x : Row). int_lt k x.0) rows)
put_by k v r rows later true true p q s e = absurd (omega (arith, ints))
put_by k v r rows later true false p q s e =
    let all = above_less k r.0 rows (omega (arith, ints)) s in
    rw (none_below k rows all, all_above k rows all) refl
put_by k v r rows later false true p q s e = ap (λ xs. r ∷ xs) e
put_by k v r rows later false false p q s e =
    let same : r.0 ≡ k = omega (arith, ints) in
    ap (λ i. (i, v) ∷ rows) same ∙ put_first (k, v) r rows (omega (arith, ints)) s

pub put_in_order : (k : ℤ) (v : List Value) (rows : List Row) → IsStrictlySortedBy int_cmp (keys_of rows) → insert_entry int_cmp rows k v ≡ with_row (k, v) rows
unfolding IsStrictlySortedBy
put_in_order k v [] s = refl
put_in_order k v (r ∷ rows) s = put_by k v r rows (insert_entry int_cmp rows k v) (int_lt k r.0) (int_lt r.0 k) refl refl (above_sorted r.0 rows s.0) (put_in_order k v rows s.1)

-- a rowid is looked for from either side
eq_both : (a b : Bool) → is_eq (if a then Less else (if b then Greater else Equal)) ≡ is_eq (if b then Less else (if a then Greater else Equal))
eq_both true true = refl
eq_both true false = refl
eq_both false true = refl
eq_both false false = refl

taken_step : (b : Bool) (v : List Value) (found : Option (List Value)) (rest : Bool) → is_some found ≡ rest → is_some (if b then Some v else found) ≡ (b || rest)
taken_step true v found rest e = refl
taken_step false v found rest e = e

pub taken_found : (k : ℤ) (rows : List Row) → is_some (lookup (is_at (int_cmp k)) rows) ≡ is_taken rows k
taken_found k [] = refl
taken_found k (r ∷ rows) =
    rw (eq_both (int_lt r.0 k) (int_lt k r.0))
    (taken_step (is_at (int_cmp k) r.0) r.1 (lookup (is_at (int_cmp k)) rows) (is_taken rows k) (taken_found k rows))

-- the last row
last_from : {X : Type 0} (o : Option X) (x : X) (xs : List X) → last_or o (x ∷ xs) ≡ slice_get (x ∷ xs) (length xs)
last_from o x [] = refl
last_from o x (y ∷ ys) = last_from (Some x) y ys

pub largest_last : (rows : List Row) (n : ℕ) (r : Row) → n ≡ length rows → slice_get rows (n - 1) ≡ Some r → largest rows ≡ Some r.0
largest_last [] n r all e = absurd cc
largest_last (x ∷ xs) n r all e =
    let here : n - 1 ≡ length xs = omega arith in
    ap (option_map (λ (y : Row). y.0)) (last_from None x xs ∙ (rw here at e))

pub largest_none : (rows : List Row) → (0 < length rows → false ≡ true) → None ≡ largest rows
largest_none [] none = refl
largest_none (x ∷ xs) none = absurd (true≢false (sym (none (omega arith))))

-- what is written above a row leaves it
written_past : (r : Row) (rows new : List Row) → AllAbove r.0 new → with_written (r ∷ rows) new ≡ r ∷ with_written rows new
written_past r rows [] s = refl
written_past r rows (n ∷ new) s =
    let h = s.0 in
    let one : int_lt n.0 r.0 ≡ false = grind (arith, ints) in
    let two : int_lt r.0 n.0 ≡ true = grind (arith, ints) in
    rw (one, two) (written_past r (set_value (is_at (int_cmp n.0)) rows n.1) new s.1)

above_made : (k : ℤ) (g : List Value → List Value) (p : Row → Bool) (rows : List Row) → AllAbove k rows → AllAbove k (map (λ (r : Row). (r.0, g r.1)) (filter p rows))
above_made k g p [] s = tt
above_made k g p (r ∷ rows) s = by (p r) (above_made k g p rows s.1)
  where
    by : (b : Bool) → AllAbove k (map (λ (x : Row). (x.0, g x.1)) (filter p rows)) → AllAbove k (map (λ (x : Row). (x.0, g x.1)) (if b then r ∷ filter p rows else filter p rows))
    by true rest = (s.0, rest)
    by false rest = rest

not_below : (k : ℤ) → int_lt k k ≡ false
not_below k = grind (arith, ints)

set_first : (r : Row) (rows : List Row) (v : List Value) → set_value (is_at (int_cmp r.0)) (r ∷ rows) v ≡ (r.0, v) ∷ rows
set_first r rows v = rw (not_below r.0) refl

-- rows that are made of some of the rows are written into their places
pub written_each : (g : List Value → List Value) (p : Row → Bool) (rows : List Row) → IsStrictlySortedBy int_cmp (keys_of rows)
    → with_written rows (map (λ (r : Row). (r.0, g r.1)) (filter p rows)) ≡ map (λ (r : Row). if p r then (r.0, g r.1) else r) rows
unfolding IsStrictlySortedBy
written_each g p [] s = refl
written_each g p (r ∷ rows) s = by (p r) (written_each g p rows s.1)
  where
    by : (b : Bool) → with_written rows (map (λ (x : Row). (x.0, g x.1)) (filter p rows)) ≡ map (λ (x : Row). if p x then (x.0, g x.1) else x) rows
        → with_written (r ∷ rows) (map (λ (x : Row). (x.0, g x.1)) (if b then r ∷ filter p rows else filter p rows)) ≡ (if b then (r.0, g r.1) else r) ∷ map (λ (x : Row). if p x then (x.0, g x.1) else x) rows
    by true rest =
        ap (λ held. with_written held (map (λ (x : Row). (x.0, g x.1)) (filter p rows))) (set_first r rows (g r.1))
        ∙ (written_past (r.0, g r.1) rows _ (above_made r.0 g p rows (above_sorted r.0 rows s.0)) ∙ ap (λ xs. (r.0, g r.1) ∷ xs) rest)
    by false rest = written_past r rows _ (above_made r.0 g p rows (above_sorted r.0 rows s.0)) ∙ ap (λ xs. r ∷ xs) rest
