-- Some of a list whose members are all such, and its first element.
use Rattle.std.proofs.Common.{◌≡◌, ℕ, ◌-◌, ◌<◌, ◌≤◌, List, [], ◌∷◌, ◌++◌, length, take, drop, get_or, All, refl, arith}
use Rattle.std.proofs.lemmas.List.{take_all}
use Rattle.std.proofs.lemmas.List.Elements.{All-cons, All-head, All-tail}

pub all_front : {X : Type 0} (P : X → Type 0) (xs ys : List X) → All P (xs ++ ys) → All P xs
all_front P [] ys all = λ k d lt. absurd (omega (arith, lt))
all_front P (x ∷ xs) ys all = All-cons P x xs (All-head P x (xs ++ ys) all) (all_front P xs ys (All-tail P x (xs ++ ys) all))

pub all_behind : {X : Type 0} (P : X → Type 0) (xs ys : List X) → All P (xs ++ ys) → All P ys
all_behind P [] ys all = all
all_behind P (x ∷ xs) ys all = all_behind P xs ys (All-tail P x (xs ++ ys) all)

-- the first element and what is behind it
pub front_is : {X : Type 0} (left : List X) (first : X) (n : ℕ) → 1 ≤ length left → first ≡ get_or left 0 first → n ≡ length left - 1
    → left ≡ first ∷ take n (drop 1 left)
front_is [] first n some f e = absurd (omega arith)
front_is (x ∷ xs) first n some f e =
    let all : length xs ≤ n = omega arith in
    rw (take_all n xs all, f) refl

pub front_here : {X : Type 0} (left : List X) (other : X) (n : ℕ) → 1 ≤ length left → n ≡ length left - 1 → left ≡ get_or left 0 other ∷ take n (drop 1 left)
front_here [] other n some e = absurd (omega arith)
front_here (x ∷ xs) other n some e =
    let all : length xs ≤ n = omega arith in
    rw (take_all n xs all) refl

pub none_left : {X : Type 0} (left : List X) → length left < 1 → left ≡ []
none_left [] few = refl
none_left (x ∷ xs) few = absurd (omega (arith, few))
