-- Lists with the same numbers, each as often, are as long.
use Rattle.std.proofs.Common.{◌≡◌, ℕ, suc, ◌+◌, ◌<◌, Bool, true, false, ◌==◌, List, [], ◌∷◌, length, refl, sym, ap, ◌∙◌, arith, if◌then◌else◌}
use Rattle.spe_frame.specs.Times.{AreSame, one_if, times}

-- a list without the first such number
abbrev drop_one : ℕ → List ℕ → List ℕ
drop_one x [] = []
drop_one x (y ∷ ys) = if x == y then ys else y ∷ drop_one x ys

itself : (n : ℕ) → (n == n) ≡ true
itself n = grind arith

one : (x y : ℕ) → (x == y) ≡ true → x ≡ y
one x y e = grind arith

times_drop : (n x : ℕ) (ys : List ℕ) → 0 < times x ys → one_if (n == x) + times n (drop_one x ys) ≡ times n ys
times_drop n x [] there = absurd (omega (arith, there))
times_drop n x (y ∷ ys) there = go (x == y) refl there (times_drop n x ys)
  where
    go : (b : Bool) → (x == y) ≡ b → 0 < one_if (x == y) + times x ys → (0 < times x ys → one_if (n == x) + times n (drop_one x ys) ≡ times n ys)
        → one_if (n == x) + times n (if x == y then ys else y ∷ drop_one x ys) ≡ one_if (n == y) + times n ys
    go true e h later = rw e (ap (λ (k : ℕ). one_if (n == k) + times n ys) (one x y e))
    go false e h later = let raised : 0 < one_if false + times x ys = rw e at h in let less : 0 < times x ys = omega (arith, raised) in let rest = later less in rw e (omega (arith, rest))

length_drop : (x : ℕ) (ys : List ℕ) → 0 < times x ys → length ys ≡ suc (length (drop_one x ys))
length_drop x [] there = absurd (omega (arith, there))
length_drop x (y ∷ ys) there = go (x == y) refl there (length_drop x ys)
  where
    go : (b : Bool) → (x == y) ≡ b → 0 < one_if (x == y) + times x ys → (0 < times x ys → length ys ≡ suc (length (drop_one x ys)))
        → suc (length ys) ≡ suc (length (if x == y then ys else y ∷ drop_one x ys))
    go true e h later = rw e refl
    go false e h later = let raised : 0 < one_if false + times x ys = rw e at h in let less : 0 < times x ys = omega (arith, raised) in rw e (ap suc (later less))

pub same_length : (xs ys : List ℕ) → AreSame xs ys → length xs ≡ length ys
same_length [] [] same = refl
same_length [] (y ∷ ys) same = absurd (let none : 0 ≡ one_if (y == y) + times y ys = same y in let some : one_if (y == y) ≡ 1 = rw (itself y) refl in omega (arith, none, some))
same_length (x ∷ xs) ys same = ap suc (same_length xs (drop_one x ys) rest) ∙ sym (length_drop x ys there)
  where
    there : 0 < times x ys
    there = let is : one_if (x == x) + times x xs ≡ times x ys = same x in let some : one_if (x == x) ≡ 1 = rw (itself x) refl in omega (arith, is, some)

    rest : (n : ℕ) → times n xs ≡ times n (drop_one x ys)
    rest n = let is : one_if (n == x) + times n xs ≡ times n ys = same n in let left = times_drop n x ys there in omega (arith, is, left)
