-- A mask in the place of a remainder by a power of two.
use Rattle.std.proofs.Common.{◌≡◌, ℕ, zero, suc, ◌%◌, ◌/◌, ◌-◌, ◌≤◌, IsTrue, arith, refl, sym, subst}
use Rattle.std.specs.Int.{is_power_of_two, IsPowerOfTwo}
use Rattle.std.proofs.lemmas.Nat.{zero_from_ones, ones_le_self, and_mask}
use Rattle.std.specs.Int.RustNames.{bit_and, count_ones}
use Rattle.std.proofs.lemmas.Bool.{eqb-true}
use lib.Count.{ones_step}

-- of an even number, and of an odd one
doubled : (n : ℕ) → n % 2 ≡ 0 → IsPowerOfTwo (n / 2) → IsPowerOfTwo n
doubled n e p = (suc p.0, omega (arith, e, p.1))

by_digit : (b n : ℕ) → n % 2 ≡ b → count_ones n ≡ 1 → (count_ones (n / 2) ≡ 1 → IsPowerOfTwo (n / 2)) → IsPowerOfTwo n
by_digit zero n e one half = doubled n e (half (omega (arith, ones_step n, e, one)))
by_digit (suc zero) n e one _ = (0, omega (arith, e, zero_from_ones (n / 2) (omega (arith, ones_step n, e, one))))
by_digit (suc (suc b)) n e one _ = absurd (omega (arith, e))

power_within : (d n : ℕ) → n ≤ d → count_ones n ≡ 1 → IsPowerOfTwo n
power_within zero n h one = absurd (omega (arith, ones_le_self n, h, one))
power_within (suc d) n h one = by_digit (n % 2) n refl one (power_within d (n / 2) (omega (arith, h)))

by_power : (n page : ℕ) → IsPowerOfTwo n → bit_and page (n - 1) ≡ page % n
by_power n page p = subst (λ (m : ℕ). bit_and page (m - 1) ≡ page % m) (sym p.1) (and_mask page p.0)

pub masked : (n page : ℕ) → IsTrue (is_power_of_two n) → bit_and page (n - 1) ≡ page % n
masked n page h = by_power n page (power_within n n (omega arith) (eqb-true (count_ones n) 1 h))
