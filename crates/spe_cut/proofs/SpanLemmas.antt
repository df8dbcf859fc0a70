-- Runs of bytes that share none are together no longer than what they lie in.
use Rattle.std.proofs.Common.{◌≡◌, ℕ, zero, suc, ◌+◌, ◌-◌, ◌<◌, ◌≤◌, ◌∙◌, List, [], ◌∷◌, Bool, true, false, refl, arith, inl, inr}
use Rattle.std.specs.Prelude.{max, min, not, ◌&&◌, ◌||◌}
use Rattle.std.specs.List.{list_any}
use Rattle.std.proofs.lemmas.Bool.{cases_lt, ltb-false}
use Rattle.spe_model.specs.Page.{apart, share}

-- 1 where a byte lies in a run, else 0
abbrev inside : ℕ × ℕ → ℕ → ℕ
inside s k = min 1 (s.1 - k) - min 1 (s.0 - k)

-- in how many runs a byte lies
abbrev covers : List (ℕ × ℕ) → ℕ → ℕ
covers [] k = 0
covers (s ∷ ss) k = inside s k + covers ss k

-- the sum of the first values
abbrev total : (ℕ → ℕ) → ℕ → ℕ
total f zero = 0
total f (suc n) = total f n + f n

abbrev pub spans_length : List (ℕ × ℕ) → ℕ
spans_length [] = 0
spans_length (s ∷ ss) = s.1 - s.0 + spans_length ss

-- each run lies between two places
abbrev pub AreInside : (low high : ℕ) → List (ℕ × ℕ) → Type 0
AreInside low high [] = Unit {0}
AreInside low high (s ∷ ss) = (low ≤ s.0) × (s.1 ≤ high) × AreInside low high ss

total_sum : (f g : ℕ → ℕ) (n : ℕ) → total (λ k. f k + g k) n ≡ total f n + total g n
total_sum f g zero = refl
total_sum f g (suc n) = let rest = total_sum f g n in omega (arith, rest)

total_none : (n : ℕ) → total (λ k. 0) n ≡ 0
total_none zero = refl
total_none (suc n) = let rest = total_none n in omega (arith, rest)

total_inside : (s : ℕ × ℕ) (n : ℕ) → total (inside s) n ≡ min n s.1 - min n s.0
total_inside s zero = omega arith
total_inside s (suc n) = let rest = total_inside s n in omega (arith, rest)

total_few : (f : ℕ → ℕ) (low n : ℕ) → ((k : ℕ) → f k ≤ 1) → ((k : ℕ) → k < low → f k ≡ 0) → total f n ≤ n - low
total_few f low zero once none = omega arith
total_few f low (suc n) once none =
    let rest = total_few f low n once none in
    let one = once n in
    elim (cases_lt n low) [ inl before ↦ (let zero' = none n before in omega (arith, rest, zero', before)) | inr from ↦ omega (arith, rest, one, from) ]

or_none : (a b : Bool) → (a || b) ≡ false → (a ≡ false) × (b ≡ false)
or_none true b e = absurd cc
or_none false b e = (refl, e)

and_not : (a b : Bool) → (not a && b) ≡ true → (a ≡ false) × (b ≡ true)
and_not true b e = absurd cc
and_not false b e = (refl, e)

apart_two : (s t : ℕ × ℕ) (k : ℕ) → share s t ≡ false → 0 < inside s k → inside t k ≡ 0
apart_two s t k none some = let order = ltb-false (max s.0 t.0) (min s.1 t.1) none in omega (arith, order, some)

none_shared : (s : ℕ × ℕ) (ss : List (ℕ × ℕ)) (k : ℕ) → list_any (share s) ss ≡ false → 0 < inside s k → covers ss k ≡ 0
none_shared s [] k none some = refl
none_shared s (t ∷ ts) k none some =
    let both = or_none (share s t) (list_any (share s) ts) none in
    let first = apart_two s t k both.0 some in
    let rest = none_shared s ts k both.1 some in
    omega (arith, first, rest)

covers_once : (spans : List (ℕ × ℕ)) (k : ℕ) → apart spans ≡ true → covers spans k ≤ 1
covers_once [] k is = omega arith
covers_once (s ∷ ss) k is =
    let both = and_not (list_any (share s) ss) (apart ss) is in
    let rest = covers_once ss k both.1 in
    let first : inside s k ≤ 1 = omega arith in
    elim (cases_lt 0 (inside s k)) [
      | inl some ↦ (let others = none_shared s ss k both.0 some in omega (arith, first, others))
      | inr none ↦ omega (arith, rest, none)
    ]

covers_none : (low high : ℕ) (spans : List (ℕ × ℕ)) (k : ℕ) → AreInside low high spans → k < low → covers spans k ≡ 0
covers_none low high [] k are before = refl
covers_none low high (s ∷ ss) k are before =
    let rest = covers_none low high ss k are.2 before in
    let from = are.0 in
    let first : inside s k ≡ 0 = omega (arith, from, before) in
    omega (arith, rest, first)

total_length : (low high : ℕ) (spans : List (ℕ × ℕ)) → AreInside low high spans → total (covers spans) high ≡ spans_length spans
total_length low high [] are = total_none high
total_length low high (s ∷ ss) are =
    let both = total_sum (inside s) (covers ss) high in
    let first = total_inside s high in
    let to = are.1 in
    let one : min high s.1 - min high s.0 ≡ s.1 - s.0 = omega (arith, to) in
    let rest = total_length low high ss are.2 in
    both ∙ omega (arith, first, one, rest)

pub spans_fit : (low high : ℕ) (spans : List (ℕ × ℕ)) → apart spans ≡ true → AreInside low high spans → spans_length spans ≤ high - low
spans_fit low high spans is are =
    let few = total_few (covers spans) low high (λ k. covers_once spans k is) (λ k before. covers_none low high spans k are before) in
    let long = total_length low high spans are in
    omega (arith, few, long)
