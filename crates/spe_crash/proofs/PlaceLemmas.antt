-- Where the pages of a file lie, and how many there are.
use Rattle.std.proofs.Common.{◌≡◌, ℕ, zero, suc, ◌+◌, ◌-◌, ◌*◌, ◌/◌, ◌<◌, ◌≤◌, max, min, arith, ap, ⊎_elim}
use Rattle.std.proofs.Math.Nat.{mul-le-mul_left, le-div_iff_mul-le, div-lt_iff_lt-mul}
use Rattle.std.proofs.lemmas.Bool.{cases_lt}

pub ends_mono : (p q s : ℕ) → p ≤ q → p * s ≤ q * s
ends_mono p q s below = let by_left : s * p ≤ s * q = mul-le-mul_left s below in omega arith

-- a page ends one page after it begins
pub page_end : (p s : ℕ) → 1 ≤ p → (p - 1) * s + s ≡ p * s
page_end zero s some = absurd (omega arith)
page_end (suc n) s some = let back : suc n - 1 ≡ n = omega arith in rw back (omega arith)

-- a page ends before a later one begins
pub before_next : (p q s : ℕ) → p < q → p * s ≤ (q - 1) * s
before_next p q s below = ends_mono p (q - 1) s (omega arith)

-- a file that grows within a page that is counted has as many pages as before
pub same_count : (s size new p : ℕ) → 0 < s → size ≤ new → new ≤ max size (p * s) → p ≤ max 1 (size / s) → max 1 (new / s) ≡ max 1 (size / s)
same_count s size new p some grows within counted = ⊎_elim
    (λ (short : size / s < 1).
    let low : size < 1 * s = (div-lt_iff_lt-mul some).0 short in
    let one : p * s ≤ 1 * s = ends_mono p 1 s (omega arith) in
    let high : new / s < 2 = (div-lt_iff_lt-mul some).1 (omega arith) in
    omega arith)
    (λ (long : 1 ≤ size / s).
    let fits : p * s ≤ size = (le-div_iff_mul-le some).0 (omega arith) in
    let same : new ≡ size = omega arith in
    ap (λ (n : ℕ). max 1 (n / s)) same)
    (cases_lt (size / s) 1)

-- a file that is cut to its pages has as many as before
pub cut_count : (s size pages : ℕ) → 0 < s → pages ≡ max 1 (size / s) → max 1 (min (pages * s) size / s) ≡ max 1 (size / s)
cut_count s size pages some counted = ⊎_elim
    (λ (short : size / s < 1).
    let low : size < 1 * s = (div-lt_iff_lt-mul some).0 short in
    let one : pages ≡ 1 = omega arith in
    let same : min (pages * s) size ≡ size = rw one (omega arith) in
    ap (λ (n : ℕ). max 1 (n / s)) same)
    (λ (long : 1 ≤ size / s).
    let fits : pages * s ≤ size = (le-div_iff_mul-le some).0 (omega arith) in
    let same : min (pages * s) size ≡ pages * s = omega arith in
    let low : pages ≤ pages * s / s = (le-div_iff_mul-le some).1 (omega arith) in
    let high : pages * s / s < pages + 1 = (div-lt_iff_lt-mul some).1 (omega arith) in
    rw same (omega arith))
    (cases_lt (size / s) 1)
