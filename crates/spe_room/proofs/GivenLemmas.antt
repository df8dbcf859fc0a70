-- A page that is given once more.
use Rattle.std.proofs.Common.{◌≡◌, ◌≢◌, ℕ, ◌==◌, List, ◌∷◌, Bool, All, if◌then◌else◌, refl, sym, subst, inl, inr}
use Rattle.std.proofs.lemmas.Bool.{cases_Bool, eqb-true, eq-eqb}
use Rattle.std.proofs.lemmas.List.Elements.{All-head, All-tail, All-cons}
use Rattle.spe_model.specs.Paging.{Paging, Given, Agrees}
use Rattle.spe_room.specs.Held.{given_in, given_too}

-- what holds of each page that was given, and of this one, holds with it too
pub each_too : (P : ℕ → List ℕ → Type 0) (given : Given) (page : ℕ) (bytes : List ℕ) → P page bytes
    → ((n : ℕ) → All (P n) (given n)) → (n : ℕ) → All (P n) (given_too page bytes given n)
each_too P given page bytes here each n =
    let Q : Bool → Type 0 = λ b. All (P n) (if b then bytes ∷ given n else given n) in
    let R : ℕ → Type 0 = λ m. P m bytes in
    elim (cases_Bool (page == n)) [
      | inl same ↦ subst Q (sym same) (All-cons (P n) bytes (given n) (subst R (eqb-true page n same) here) (each n))
      | inr other ↦ subst Q (sym other) (each n)
    ]

-- what agrees with more agrees with less
agrees_less : (pages : Paging) (given : Given) (page : ℕ) (bytes : List ℕ) → Agrees pages (given_too page bytes given) → Agrees pages given
agrees_less pages given page bytes agrees = record {
  each = λ n.
      let P : List ℕ → Type 0 = λ b. pages n ≡ b in
      let Q : Bool → Type 0 = λ b. All P (if b then bytes ∷ given n else given n) in
      elim (cases_Bool (page == n)) [
        | inl same ↦ All-tail P bytes (given n) (subst Q same (agrees.each n))
        | inr other ↦ subst Q other (agrees.each n)
      ];
}

-- the page as it was given last
agrees_at : (pages : Paging) (given : Given) (page : ℕ) (bytes : List ℕ) → Agrees pages (given_too page bytes given) → bytes ≡ pages page
agrees_at pages given page bytes agrees =
    let P : List ℕ → Type 0 = λ b. pages page ≡ b in
    let Q : Bool → Type 0 = λ b. All P (if b then bytes ∷ given page else given page) in
    sym (All-head P bytes (given page) (subst Q (eq-eqb page page refl) (agrees.each page)))

pub too_other : (given : Given) (page : ℕ) (bytes : List ℕ) (n : ℕ) → n ≢ page → given_too page bytes given n ≡ given n
too_other given page bytes n other = elim (cases_Bool (page == n)) [
  | inl same ↦ absurd (other (sym (eqb-true page n same)))
  | inr not_same ↦ rw not_same refl
]

-- the same of lists of pages with their bytes
pub gave_less : (pages : Paging) (old new : List (ℕ × List ℕ)) (page : ℕ) (bytes : List ℕ) → new ≡ (page, bytes) ∷ old
    → Agrees pages (given_in new) → Agrees pages (given_in old)
gave_less pages old new page bytes is agrees =
    let P : List (ℕ × List ℕ) → Type 0 = λ ps. Agrees pages (given_in ps) in
    agrees_less pages (given_in old) page bytes (subst P is agrees)

pub gave_at : (pages : Paging) (old new : List (ℕ × List ℕ)) (page : ℕ) (bytes : List ℕ) → new ≡ (page, bytes) ∷ old
    → Agrees pages (given_in new) → bytes ≡ pages page
gave_at pages old new page bytes is agrees =
    let P : List (ℕ × List ℕ) → Type 0 = λ ps. Agrees pages (given_in ps) in
    agrees_at pages (given_in old) page bytes (subst P is agrees)
