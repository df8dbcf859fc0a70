-- The places that a checksum takes up, one after the other.
use Rattle.std.proofs.Common.{◌≡◌, ℕ, zero, suc, ◌+◌, ◌-◌, ◌≤◌, ◌<◌, ◌%◌, ◌^◌, List, ◌∷◌, length, sum, map, refl, arith, ap, true, false, inl, inr}
use Rattle.std.specs.Prelude.{slice_index, nat_lt}
use Rattle.std.proofs.lemmas.Bool.{cases_lt}
use Rattle.std.proofs.lemmas.List.Sums.{sum_by_from}
use Rattle.std.proofs.lemmas.Bool.Decides.{nat_tests}
use Rattle.spe_model.specs.Journal.{checksum_of, places_below}

-- more steps than `at` give no other places
places_enough : (n m at : ℕ) → at ≤ n → at ≤ m → places_below n at ≡ places_below m at
places_enough zero zero at a b = refl
places_enough zero (suc m) at a b = let small : nat_lt 200 at ≡ false = grind (arith, nat_tests) in rw small refl
places_enough (suc n) zero at a b = let small : nat_lt 200 at ≡ false = grind (arith, nat_tests) in rw small refl
places_enough (suc n) (suc m) at a b = elim (cases_lt 200 at) [
  | inl above ↦
      let large : nat_lt 200 at ≡ true = grind (arith, nat_tests) in
      rw large (ap (λ (ps : List ℕ). (at - 200) ∷ ps) (places_enough n m (at - 200) (omega arith) (omega arith)))
  | inr below ↦ let small : nat_lt 200 at ≡ false = grind (arith, nat_tests) in rw small refl
]

-- the first place and those below it
places_below-first : (at : ℕ) → 200 < at → places_below at at ≡ (at - 200) ∷ places_below (at - 200) (at - 200)
places_below-first zero above = absurd (omega arith)
places_below-first (suc n) above =
    let large : nat_lt 200 (suc n) ≡ true = grind (arith, nat_tests) in
    rw large (ap (λ (ps : List ℕ). (suc n - 200) ∷ ps) (places_enough n (suc n - 200) (suc n - 200) (omega arith) (omega arith)))

-- the bytes at the places below `at`, summed
abbrev pub sum_below : List ℕ → ℕ → ℕ
sum_below page at = sum (map (slice_index page) (places_below at at))

-- one byte moves from the sum that is left to the sum so far
pub sum_below-first : (page : List ℕ) (so_far at byte : ℕ) → 200 < at → byte ≡ slice_index page (at - 200)
    → ((so_far + byte) % 2 ^ 32 + sum_below page (at - 200)) % 2 ^ 32 ≡ (so_far + sum_below page at) % 2 ^ 32
sum_below-first page so_far at byte above read =
    let rest = map (slice_index page) (places_below (at - 200) (at - 200)) in
    let moved : sum (slice_index page (at - 200) ∷ rest) ≡ slice_index page (at - 200) + sum rest =
    omega (arith, sum_by_from (λ x. x) (0 + slice_index page (at - 200)) rest, sum_by_from (λ x. x) 0 rest) in
    rw (places_below-first at above, moved, read) (omega arith)

pub sum_below-none : (page : List ℕ) (at : ℕ) → at ≤ 200 → sum_below page at ≡ 0
sum_below-none page zero below = refl
sum_below-none page (suc n) below = let small : nat_lt 200 (suc n) ≡ false = grind (arith, nat_tests) in rw small refl

-- the sum of all is the checksum
pub sum_below-all : (nonce : ℕ) (page : List ℕ) → (nonce + sum_below page (length page)) % 2 ^ 32 ≡ checksum_of nonce page
unfolding checksum_of
sum_below-all nonce page = refl
