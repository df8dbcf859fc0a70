-- Tests of what a statement gives, one number after the other.
use Rattle.std.proofs.Common.{◌≡◌, ℕ, zero, suc, ◌+◌, ◌-◌, ◌<◌, ◌≤◌, Bool, true, false, ◌||◌, ◌&&◌, length, map, List, [], ◌∷◌, ◌++◌, get_or, drop, refl, sym, ap, ◌∙◌, arith, inl, inr, Some, None}
use Rattle.std.specs.Prelude.{slice_get}
use Rattle.std.specs.List.{range_with_len, enumerate_from, zip, list_any}
use Rattle.std.specs.Option.{option_map_or}
use Rattle.std.proofs.lemmas.Bool.{cases_lt}
use Rattle.std.proofs.lemmas.List.Folds.{list_any-append}
use Rattle.std.proofs.lemmas.List.{at_drop_more, at_drop_all}
use Rattle.std.proofs.lemmas.Option.{slice_get-get_or, slice_get_past, same_Some}
use Rattle.std.proofs.lemmas.Bool.Decides.{nat_tests}
use Rattle.spe_model.specs.declared.naming.Named.{Named}
use Rattle.spe_model.specs.declared.naming.Named.TheVariants as named
use Rattle.spe_model.specs.Naming.{is_same}
use Rattle.spe_model.specs.Assigned.{has_twice}

-- what a test says of the element at a place, if there is one
abbrev pub passes_at : {X : Type 0} → (X → Bool) → List X → ℕ → Bool
passes_at p xs i = option_map_or p (slice_get xs i) false

passes_within : {X : Type 0} (p : X → Bool) (xs : List X) (i : ℕ) (d : X) → i < length xs → passes_at p xs i ≡ p (get_or xs i d)
passes_within p xs i d within = ap (λ o. option_map_or p o false) (slice_get-get_or xs i d within)

passes_past : {X : Type 0} (p : X → Bool) (xs : List X) (i : ℕ) → length xs ≤ i → passes_at p xs i ≡ false
passes_past p xs i past = ap (λ o. option_map_or p o false) (slice_get_past xs i past)

none_past : {X : Type 0} (p : X → Bool) (xs : List X) (a n : ℕ) → length xs ≤ a → list_any (λ j. passes_at p xs j) (range_with_len a n) ≡ false
none_past p xs a zero past = refl
none_past p xs a (suc n) past = rw (passes_past p xs a past) (none_past p xs (a + 1) n (omega arith))

any_from : {X : Type 0} (d : X) (p : X → Bool) (xs : List X) (a n : ℕ) → length xs ≤ a + n
    → list_any (λ j. passes_at p xs j) (range_with_len a n) ≡ list_any p (drop a xs)
any_from d p xs a zero all = sym (at_drop_all (list_any p) xs a (omega arith))
any_from d p xs a (suc n) all =
    elim (cases_lt a (length xs)) [
      | inl within ↦
          rw (passes_within p xs a d within)
          (ap (λ b. p (get_or xs a d) || b) (any_from d p xs (a + 1) n (omega arith)) ∙ sym (at_drop_more (list_any p) xs a d within))
      | inr past ↦ none_past p xs a (suc n) past ∙ sym (at_drop_all (list_any p) xs a past)
    ]

pub any_by_number : {X : Type 0} (d : X) (p : X → Bool) (xs : List X) (n : ℕ) → length xs ≤ n → list_any (λ j. passes_at p xs j) (range_with_len 0 n) ≡ list_any p xs
any_by_number d p xs n all = any_from d p xs 0 n (omega arith)

any_same : {X : Type 0} (p q : X → Bool) → ((x : X) → p x ≡ q x) → (xs : List X) → list_any p xs ≡ list_any q xs
any_same p q same [] = refl
any_same p q same (x ∷ xs) = rw (same x) (ap (λ b. q x || b) (any_same p q same xs))

pub any_mapped : {X Y : Type 0} (p : Y → Bool) (f : X → Y) (xs : List X) → list_any p (map f xs) ≡ list_any (λ x. p (f x)) xs
any_mapped p f [] = refl
any_mapped p f (x ∷ xs) = ap (λ b. p (f x) || b) (any_mapped p f xs)

pub any_in_both : {X Y : Type 0} (p : Y → Bool) (f : X → Y) (ys : List Y) (xs : List X) (r : Bool) → list_any p ys ≡ false → r ≡ list_any (λ x. p (f x)) xs
    → r ≡ list_any p (ys ++ map f xs)
any_in_both p f ys xs r none e = e ∙ sym (list_any-append p ys (map f xs) ∙ rw none (any_mapped p f xs))

is_same_sym : (a b : Named) → is_same a b ≡ is_same b a
is_same_sym named.Rowid named.Rowid = refl
is_same_sym named.Rowid (named.Column j) = refl
is_same_sym named.Rowid named.Nothing = refl
is_same_sym (named.Column i) named.Rowid = refl
is_same_sym (named.Column i) (named.Column j) = grind (arith, nat_tests)
is_same_sym (named.Column i) named.Nothing = refl
is_same_sym named.Nothing named.Rowid = refl
is_same_sym named.Nothing (named.Column j) = refl
is_same_sym named.Nothing named.Nothing = refl

-- whether the target of a number comes again
abbrev pub again : List Named → ℕ → Bool
again targets i = option_map_or (λ t. list_any (is_same t) (drop (i + 1) targets)) (slice_get targets i) false

pub again_at : (targets : List Named) (i count : ℕ) (t : Named) → i < count → count ≡ length targets → slice_get targets i ≡ Some t
    → list_any (λ j. passes_at (λ s. is_same s t) targets j) (range_with_len (i + 1) (count - (i + 1))) ≡ again targets i
again_at targets i count t within all found =
    any_from named.Nothing (λ s. is_same s t) targets (i + 1) (count - (i + 1)) (omega arith)
    ∙ any_same (λ s. is_same s t) (is_same t) (λ s. is_same_sym s t) (drop (i + 1) targets)
    ∙ sym (ap (λ o. option_map_or (λ s. list_any (is_same s) (drop (i + 1) targets)) o false) found)

twice_more : (targets : List Named) (i : ℕ) → i < length targets → has_twice (drop i targets) ≡ (again targets i || has_twice (drop (i + 1) targets))
twice_more targets i within =
    at_drop_more has_twice targets i named.Nothing within
    ∙ ap (λ o. option_map_or (λ t. list_any (is_same t) (drop (i + 1) targets)) o false || has_twice (drop (i + 1) targets)) (sym (slice_get-get_or targets i named.Nothing within))

pub twice_found : (targets : List Named) (i : ℕ) (all : Bool) → i < length targets → again targets i ≡ true → has_twice (drop i targets) ≡ all → true ≡ all
twice_found targets i all within comes e = sym (twice_more targets i within ∙ rw comes refl) ∙ e

pub twice_rest : (targets : List Named) (i : ℕ) (all : Bool) → i < length targets → again targets i ≡ false → has_twice (drop i targets) ≡ all → has_twice (drop (i + 1) targets) ≡ all
twice_rest targets i all within not_again e = sym (twice_more targets i within ∙ rw not_again refl) ∙ e

pub twice_none : (targets : List Named) (i : ℕ) (all : Bool) → length targets ≤ i → has_twice (drop i targets) ≡ all → false ≡ all
twice_none targets i all past e = sym (at_drop_all has_twice targets i past) ∙ e

-- pairs by their numbers
pub zip_some : {X Y : Type 0} (xs : List X) (ys : List Y) (i : ℕ) (x : X) (y : Y) → slice_get xs i ≡ Some x → slice_get ys i ≡ Some y → slice_get (zip xs ys) i ≡ Some (x, y)
zip_some [] ys i x y e f = absurd cc
zip_some (a ∷ rest) [] i x y e f = absurd cc
zip_some (a ∷ rest) (b ∷ others) zero x y e f = rw (same_Some a x e, same_Some b y f) refl
zip_some (a ∷ rest) (b ∷ others) (suc i) x y e f = zip_some rest others i x y e f

pub zip_none_left : {X Y : Type 0} (xs : List X) (ys : List Y) (i : ℕ) → slice_get xs i ≡ None → slice_get (zip xs ys) i ≡ None
zip_none_left [] ys i e = refl
zip_none_left (a ∷ rest) [] i e = refl
zip_none_left (a ∷ rest) (b ∷ others) zero e = absurd cc
zip_none_left (a ∷ rest) (b ∷ others) (suc i) e = zip_none_left rest others i e

pub zip_none_right : {X Y : Type 0} (xs : List X) (ys : List Y) (i : ℕ) → slice_get ys i ≡ None → slice_get (zip xs ys) i ≡ None
zip_none_right [] ys i e = refl
zip_none_right (a ∷ rest) [] i e = refl
zip_none_right (a ∷ rest) (b ∷ others) zero e = absurd cc
zip_none_right (a ∷ rest) (b ∷ others) (suc i) e = zip_none_right rest others i e

pub zip_short : {X Y : Type 0} (xs : List X) (ys : List Y) → length (zip xs ys) ≤ length ys
zip_short [] ys = omega arith
zip_short (x ∷ xs) [] = omega arith
zip_short (x ∷ xs) (y ∷ ys) = let h = zip_short xs ys in omega arith

-- two lists that go through one list's elements and places
pub any_in_step : {X Y : Type 0} (f : ℕ × X → Bool) (g : ℕ → Y) (q : Y → Bool) (a : ℕ) (xs : List X)
    → list_any (λ (x : Bool × Y). x.0 && q x.1) (zip (map f (enumerate_from a xs)) (map g (range_with_len a (length xs)))) ≡ list_any (λ (x : ℕ × X). f x && q (g x.0)) (enumerate_from a xs)
any_in_step f g q a [] = refl
any_in_step f g q a (x ∷ xs) = ap (λ b. (f (a, x) && q (g a)) || b) (any_in_step f g q (a + 1) xs)
