use Rattle.std.proofs.Common.{◌≡◌, ◌≢◌, ◌∙◌, ℕ, ◌*◌, ◌/◌, ◌%◌, ◌^◌, ◌<◌, ◌==◌, ◌||◌, Bool, true, false, List, set, sym, ap, subst, refl, inl, inr, arith, length, bit_or, w64, slice_index}
use Rattle.std.proofs.lemmas.Bool.{cases_eq}
use Rattle.std.proofs.lemmas.List.{get_or-set_same, get_or-set_other}
use Rattle.std.proofs.lemmas.Nat.Bits.{bit_at_set_same, bit_at_set_other}
use Rattle.std.specs.Int.{bit_at}
use Rattle.spe_check.specs.Marked.{is_marked}

eq_self : (n : ℕ) → (n == n) ≡ true
eq_self n = grind arith

eq_other : (m n : ℕ) → (n ≡ m → ⊥) → (m == n) ≡ false
eq_other m n other = grind (arith, other)

or_self : (m n : ℕ) (b : Bool) → (n ≡ m → ⊥) → b ≡ (m == n || b)
or_self m n b other = rw (eq_other m n other) refl

-- a page is marked
pub marked_more : (words : List ℕ) (page n : ℕ) → page / 64 < length words
    → is_marked (set words (page / 64) (bit_or (slice_index words (page / 64)) (1 * 2 ^ (page % 64) % 2 ^ 64))) n ≡ (page == n || is_marked words n)
marked_more words page n inside =
    let k = page % 64 in
    let place = page / 64 in
    let old = slice_index words place in
    let new = bit_or old (1 * 2 ^ k % 2 ^ 64) in
    let below : k < 64 = omega arith in
    let f : ℕ → Bool = λ w. bit_at w (n % 64) == 1 in
    let at_set : n / 64 ≡ place → slice_index (set words place new) (n / 64) ≡ new =
    λ same. ap (slice_index (set words place new)) same ∙ get_or-set_same words place new 0 inside in
    elim (cases_eq n page) [
      | inl e ↦
          let one : bit_at new k ≡ 1 = bit_at_set_same w64 old k below in
          let P : ℕ → Type 0 = λ m. is_marked (set words place new) m ≡ (page == m || is_marked words m) in
          let here : is_marked (set words place new) page ≡ true =
          ap (λ w. bit_at w k == 1) (get_or-set_same words place new 0 inside) ∙ ap (λ b. b == 1) one in
          subst P (sym e) (here ∙ rw (eq_self page) refl)
      | inr other ↦ elim (cases_eq (n / 64) place) [
        | inl same ↦
            let differ : n % 64 ≢ k = λ equal. other (omega (arith, same, equal)) in
            ap f (at_set same) ∙ ap (λ b. b == 1) (bit_at_set_other w64 old k below (n % 64) differ)
            ∙ ap f (sym (ap (slice_index words) same)) ∙ or_self page n (is_marked words n) other
        | inr apart ↦ ap f (get_or-set_other words place (n / 64) new 0 apart) ∙ or_self page n (is_marked words n) other
      ]
    ]
