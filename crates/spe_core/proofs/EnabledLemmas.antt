-- Tests of a state.
use Rattle.std.proofs.Common.{◌≡◌, ℕ, zero, suc, ◌+◌, ◌-◌, ◌<◌, ◌∷◌, arith, refl, Bool, true}
use Rattle.std.specs.List.{list_all}
use Rattle.spe_model.specs.Journal.{numbers_from}

numbers_next : (n count : ℕ) → 0 < count → numbers_from n count ≡ n ∷ numbers_from (n + 1) (count - 1)
numbers_next n zero some = absurd (omega arith)
numbers_next n (suc count) some = let back : suc count - 1 ≡ count = omega arith in rw back refl

-- a page that passes is left out
pub all_next : (test : ℕ → Bool) (page pages : ℕ) → page < pages → test (page + 1) ≡ true
    → list_all test (numbers_from (page + 1 + 1) (pages - (page + 1))) ≡ list_all test (numbers_from (page + 1) (pages - page))
all_next test page pages below passes =
    let step = numbers_next (page + 1) (pages - page) (omega arith) in
    let same : pages - page - 1 ≡ pages - (page + 1) = omega arith in
    rw (step, passes, same) refl
