-- Sheets as the entries of a map.
use Rattle.std.proofs.Common.{◌≡◌, ℕ, List, [], ◌∷◌, ap, sym, refl, Bool, true, false, arith, Option, Some, None, cond, Less}
use Rattle.std.specs.Prelude.{◌==◌, ◌||◌, not, filter, is_some}
use Rattle.std.specs.Option.{option_map}
use Rattle.std.specs.List.{AllByRecursion, find, list_any}
use Rattle.std.specs.List.Sorted.{IsStrictlySortedBy}
use Rattle.std.specs.Ordering.{nat_cmp}
use Rattle.std.specs.BTreeMap.{is_at}
use Rattle.std.specs.Map.{keys_of, lookup, remove_entry}
use Rattle.std.proofs.lemmas.Bool.Decides.{nat_tests}
use Rattle.spe_stored.specs.Sheets.{Sheets, sheet_at, without_sheet}

pub at_is : (p k : ℕ) → is_at (nat_cmp p) k ≡ (k == p)
at_is p k = grind (arith, nat_tests)

-- a look-up finds the sheet
pub lookup_is : (p : ℕ) (es : Sheets) → lookup (is_at (nat_cmp p)) es ≡ sheet_at p es
lookup_is p [] = refl
lookup_is p (s ∷ ss) = rw (at_is p s.0, lookup_is p ss) refl

-- no later page is the first
later_kept : (p : ℕ) (ss : Sheets) → AllByRecursion (λ (y : ℕ). nat_cmp p y ≡ Less) (keys_of ss) → filter (λ (s : ℕ × List ℕ). not (s.0 == p)) ss ≡ ss
later_kept p [] above = refl
later_kept p (s ∷ ss) above =
    let other : (s.0 == p) ≡ false = grind (arith, nat_tests, above.0) in
    rw other (ap (λ (l : Sheets). s ∷ l) (later_kept p ss above.1))

removed_by : (p : ℕ) (s : ℕ × List ℕ) (ss : Sheets) (b : Bool) → (s.0 == p) ≡ b → AllByRecursion (λ (y : ℕ). nat_cmp s.0 y ≡ Less) (keys_of ss) → remove_entry (is_at (nat_cmp p)) ss ≡ without_sheet p ss
    → cond b ss (s ∷ remove_entry (is_at (nat_cmp p)) ss) ≡ cond (not b) (s ∷ without_sheet p ss) (without_sheet p ss)
removed_by p s ss true same above rest =
    let at : s.0 ≡ p = grind (arith, nat_tests) in
    sym (later_kept p ss (rw at at above))
removed_by p s ss false other above rest = ap (λ (l : Sheets). s ∷ l) rest

-- what a removal leaves
pub removed_is : (p : ℕ) (es : Sheets) → IsStrictlySortedBy nat_cmp (keys_of es) → remove_entry (is_at (nat_cmp p)) es ≡ without_sheet p es
unfolding IsStrictlySortedBy
removed_is p [] sorted = refl
removed_is p (s ∷ ss) sorted = rw (at_is p s.0) (removed_by p s ss (s.0 == p) refl sorted.0 (removed_is p ss sorted.1))

-- some element passes exactly where a first one does
any_by : {X : Type 0} (test : X → Bool) (x : X) (xs : List X) (b : Bool) → is_some (find test xs) ≡ list_any test xs
    → is_some (cond b (Some x) (find test xs)) ≡ (b || list_any test xs)
any_by test x xs true rest = refl
any_by test x xs false rest = rest

pub found_any : {X : Type 0} (test : X → Bool) (xs : List X) → is_some (find test xs) ≡ list_any test xs
found_any test [] = refl
found_any test (x ∷ xs) = any_by test x xs (test x) (found_any test xs)

pub some_shown : {X Y : Type 0} (f : X → Y) (o : Option X) → is_some o ≡ is_some (option_map f o)
some_shown f None = refl
some_shown f (Some x) = refl
