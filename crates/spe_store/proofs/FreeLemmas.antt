-- Which ids are free.
use Rattle.std.proofs.Common.{◌≡◌, ℕ, zero, suc, ◌<◌, List, [], ◌∷◌, length, refl, sym, ap, ◌∙◌, arith, Bool, true, false, Option, Some, None, ⊎_elim}
use Rattle.std.specs.Prelude.{◌==◌, ◌&&◌, not, nat_lt, slice_get}
use Rattle.std.specs.Option.{option_map}
use Rattle.std.proofs.lemmas.Bool.{cases_Bool, eqb-true}
use Rattle.std.proofs.lemmas.Bool.Decides.{nat_tests}
use Rattle.spe_store.specs.declared.work.Work.{Work}
use Rattle.spe_store.specs.Call.{is_free}
use Rattle.spe_store.specs.Event.{Event, open_in}
use Rattle.spe_store.specs.Store.{AreListed}
use Rattle.spe_store.specs.Work.{free_place}

later : (place : Option ℕ) (at : ℕ) → option_map suc place ≡ Some at → (before : ℕ) × (at ≡ suc before) × (place ≡ Some before)
later None at e = absurd cc
later (Some n) at e = (n, (let same : suc n ≡ at = cc in sym same), refl)

nowhere : (place : Option ℕ) → option_map suc place ≡ None → place ≡ None
nowhere None e = refl
nowhere (Some n) e = absurd cc

abbrev is_spare : Work → Bool
is_spare w = not w.out && (w.end == 0)

and_last : (a b : Bool) → (a && b) ≡ true → b ≡ true
and_last true b e = e
and_last false b e = absurd cc

pub spare_shut : (w : Work) → is_spare w ≡ true → w.end ≡ 0
spare_shut w e = eqb-true w.end 0 (and_last (not w.out) (w.end == 0) e)

-- what free says of each id by its place
abbrev Fits : (ℕ → Bool) → List Work → Type 0
Fits free works = (i : ℕ) (w : Work) → slice_get works i ≡ Some w → free i ≡ is_spare w

pub first_free : (free : ℕ → Bool) (works : List Work) → Fits free works → (n : ℕ) → free_place works ≡ Some n → (free n ≡ true) × ((i : ℕ) → i < n → free i ≡ false)
first_free free [] fits n found = absurd cc
first_free free (w ∷ ws) fits n found = ⊎_elim
    (λ (is : is_spare w ≡ true).
    let zero_at : Some 0 ≡ Some n = rw is at found in
    let at : n ≡ 0 = cc in
    (ap free at ∙ fits 0 w refl ∙ is, λ i low. absurd (omega (arith, at, low))))
    (λ (other : is_spare w ≡ false).
    let more = later (free_place ws) n (rw other at found) in
    let rest = first_free (λ (i : ℕ). free (suc i)) ws (λ i v at. fits (suc i) v at) more.0 more.2 in
    (ap free more.1 ∙ rest.0, λ i low. below (fits 0 w refl ∙ other) rest.1 more.1 i low))
    (cases_Bool (is_spare w))
  where
    below : {before at : ℕ} → free 0 ≡ false → ((i : ℕ) → i < before → free (suc i) ≡ false) → at ≡ suc before → (i : ℕ) → i < at → free i ≡ false
    below first rest same zero low = first
    below first rest same (suc i) low = rest i (omega (arith, same, low))

pub none_free : (free : ℕ → Bool) (works : List Work) → Fits free works → free_place works ≡ None → (i : ℕ) → i < length works → free i ≡ false
none_free free [] fits none i low = absurd (omega (arith, low))
none_free free (w ∷ ws) fits none i low = ⊎_elim
    (λ (is : is_spare w ≡ true). absurd (let impossible : Some 0 ≡ None = rw is at none in cc))
    (λ (other : is_spare w ≡ false).
    by_place (fits 0 w refl ∙ other) (none_free (λ (j : ℕ). free (suc j)) ws (λ j v at. fits (suc j) v at) (nowhere (free_place ws) (rw other at none))) i low)
    (cases_Bool (is_spare w))
  where
    by_place : free 0 ≡ false → ((j : ℕ) → j < length ws → free (suc j) ≡ false) → (i : ℕ) → i < suc (length ws) → free i ≡ false
    by_place first rest zero low = first
    by_place first rest (suc j) low = rest j (omega (arith, low))

not_begun : (n : ℕ) → not (nat_lt 0 n) ≡ (n == 0)
not_begun n = grind (arith, nat_tests)

-- an id is free where what the store holds of it says so
pub free_fits : (page_size : ℕ) (events : List Event) (works : List Work) → AreListed page_size events works → Fits (is_free events) works
free_fits page_size events works lists i w found =
    let was = lists i w found in
    ap (λ (b : Bool). not b && not (open_in events i)) (sym was.out) ∙ ap (λ (b : Bool). not w.out && not b) (sym was.begun) ∙ ap (λ (b : Bool). not w.out && b) (not_begun w.end)
