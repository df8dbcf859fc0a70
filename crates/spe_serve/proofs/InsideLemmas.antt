-- Some of a list whose members are all such.
use Rattle.std.proofs.Common.{ℕ, zero, suc, List, [], ◌∷◌, ◌++◌, All, subst, arith}
use Rattle.std.specs.List.{Contains}
use Rattle.std.proofs.lemmas.List.Elements.{All-cons, All-head, All-tail}

pub all_front : (P : ℕ → Type 0) (xs ys : List ℕ) → All P (xs ++ ys) → All P xs
all_front P [] ys all = λ k d lt. absurd (omega (arith, lt))
all_front P (x ∷ xs) ys all = All-cons P x xs (All-head P x (xs ++ ys) all) (all_front P xs ys (All-tail P x (xs ++ ys) all))

pub all_behind : (P : ℕ → Type 0) (xs ys : List ℕ) → All P (xs ++ ys) → All P ys
all_behind P [] ys all = all
all_behind P (x ∷ xs) ys all = all_behind P xs ys (All-tail P x (xs ++ ys) all)

pub one_of : (P : ℕ → Type 0) (xs : List ℕ) (n : ℕ) → All P xs → Contains xs n → P n
one_of P [] n all (k, less, is) = absurd (omega (arith, less))
one_of P (x ∷ xs) n all (zero, less, is) = subst P is (All-head P x xs all)
one_of P (x ∷ xs) n all (suc k, less, is) = one_of P xs n (All-tail P x xs all) (k, omega (arith, less), is)
