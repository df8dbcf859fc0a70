-- How often a number is in a list, which says whether all in it differ, in whatever order they stand.
use Rattle.std.proofs.Common.{◌≡◌, ◌≢◌, ◌⊎◌, ℕ, ◌+◌, ◌<◌, ◌≤◌, List, [], ◌∷◌, ◌++◌, length, All, refl, sym, subst, ◌∙◌, arith, Bool, true, false, ⊎_elim, inl, inr}
use Rattle.std.specs.Prelude.{◌==◌}
use Rattle.std.specs.List.{AllByRecursion, IsDistinct, list_any}
use Rattle.std.proofs.lemmas.Bool.{cases_Bool, eq-eqb, eqb-true, eqb-false, ne_eqb, or_cases}
use Rattle.std.proofs.lemmas.List.Elements.{All-cons, All-head, All-nil, All-tail}
use Rattle.std.proofs.lemmas.Map.Steps.{length-le_from_distinct_below}
use Rattle.spe_model.specs.Standing.{AreDistinct}

abbrev pub one_if : Bool → ℕ
one_if true = 1
one_if false = 0

-- how often a number is there
abbrev pub times : ℕ → List ℕ → ℕ
times n [] = 0
times n (m ∷ ms) = one_if (n == m) + times n ms

pub times-append : (n : ℕ) (xs ys : List ℕ) → times n (xs ++ ys) ≡ times n xs + times n ys
times-append n [] ys = omega arith
times-append n (x ∷ xs) ys = omega (arith, times-append n xs ys)

-- no number is there twice
abbrev pub AreSingle : List ℕ → Type 0
AreSingle xs = (n : ℕ) → times n xs ≤ 1

-- what holds of each number that is there
abbrev pub HoldsOf : (ℕ → Type 0) → List ℕ → Type 0
HoldsOf P xs = (n : ℕ) → 0 < times n xs → P n

pub here : (n x : ℕ) (xs : List ℕ) → n ≡ x → times n (x ∷ xs) ≡ 1 + times n xs
here n x xs e = rw (eq-eqb n x e) refl

pub there : (n x : ℕ) (xs : List ℕ) → n ≢ x → times n (x ∷ xs) ≡ times n xs
there n x xs e = rw (ne_eqb n x e) (omega arith)

pub same_or_not : (n x : ℕ) → (n ≡ x) ⊎ (n ≢ x)
same_or_not n x = ⊎_elim (λ t. inl (eqb-true n x t)) (λ f. inr (eqb-false n x f)) (cases_Bool (n == x))

times_none : (n : ℕ) (xs : List ℕ) → All (λ m. n ≢ m) xs → times n xs ≡ 0
times_none n [] all = refl
times_none n (x ∷ xs) all =
    there n x xs (All-head (λ m. n ≢ m) x xs all) ∙ times_none n xs (All-tail (λ m. n ≢ m) x xs all)

none_times : (n : ℕ) (xs : List ℕ) → times n xs ≡ 0 → All (λ m. n ≢ m) xs
none_times n [] none = All-nil (λ m. n ≢ m)
none_times n (x ∷ xs) none = All-cons (λ m. n ≢ m) x xs
    (λ (e : n ≡ x). let at = here n x xs e in absurd (omega arith)) (none_times n xs (omega arith))

pub single_from_distinct : (xs : List ℕ) → AreDistinct xs → AreSingle xs
single_from_distinct [] distinct n = omega arith
single_from_distinct (x ∷ xs) distinct n = ⊎_elim
    (λ (e : n ≡ x). let at = here n x xs e in let none : times n xs ≡ 0 = subst (λ (m : ℕ). times m xs ≡ 0) (sym e) (times_none x xs distinct.0) in omega arith)
    (λ (e : n ≢ x). let at = there n x xs e in let rest = single_from_distinct xs distinct.1 n in omega arith)
    (same_or_not n x)

single_tail : (x : ℕ) (xs : List ℕ) → AreSingle (x ∷ xs) → AreSingle xs
single_tail x xs single n = let one = single n in omega arith

single_head : (x : ℕ) (xs : List ℕ) → AreSingle (x ∷ xs) → times x xs ≡ 0
single_head x xs single = let one = single x in let at = here x x xs refl in omega arith

pub distinct_from_single : (xs : List ℕ) → AreSingle xs → AreDistinct xs
distinct_from_single [] single = tt
distinct_from_single (x ∷ xs) single = (none_times x xs (single_head x xs single), distinct_from_single xs (single_tail x xs single))

pub holds_from_all : (P : ℕ → Type 0) (xs : List ℕ) → All P xs → HoldsOf P xs
holds_from_all P [] all n some = absurd (omega arith)
holds_from_all P (x ∷ xs) all n some = ⊎_elim
    (λ (e : n ≡ x). subst P (sym e) (All-head P x xs all))
    (λ (e : n ≢ x). let at = there n x xs e in holds_from_all P xs (All-tail P x xs all) n (omega arith))
    (same_or_not n x)

pub all_from_holds : (P : ℕ → Type 0) (xs : List ℕ) → HoldsOf P xs → All P xs
all_from_holds P [] holds = All-nil P
all_from_holds P (x ∷ xs) holds = All-cons P x xs
    (holds x (let at = here x x xs refl in omega arith)) (all_from_holds P xs (λ n some. holds n (omega arith)))

apart_from_none : (x : ℕ) (xs : List ℕ) → times x xs ≡ 0 → AllByRecursion (λ y. (x == y) ≡ false) xs
apart_from_none x [] none = tt
apart_from_none x (y ∷ ys) none =
    (ne_eqb x y (λ (e : x ≡ y). let at = here x y ys e in absurd (omega arith)), apart_from_none x ys (omega arith))

apart : (xs : List ℕ) → AreSingle xs → IsDistinct (λ x y. x == y) xs
unfolding IsDistinct
apart [] single = tt
apart (x ∷ xs) single = (apart_from_none x xs (single_head x xs single), apart xs (single_tail x xs single))

any_times : (n : ℕ) (xs : List ℕ) → list_any (λ m. n == m) xs ≡ true → 0 < times n xs
any_times n [] any = absurd cc
any_times n (x ∷ xs) any = ⊎_elim
    (λ (h : (n == x) ≡ true). let at = here n x xs (eqb-true n x h) in omega arith)
    (λ (t : list_any (λ m. n == m) xs ≡ true). let rest = any_times n xs t in omega arith)
    (or_cases (n == x) (list_any (λ m. n == m) xs) any)

none_zero : (xs : List ℕ) → HoldsOf (λ n. 1 ≤ n) xs → times 0 xs ≡ 0
none_zero xs above = ⊎_elim
    (λ (e : times 0 xs ≡ 0). e)
    (λ (e : times 0 xs ≢ 0). let one = above 0 (omega arith) in absurd (omega arith))
    (same_or_not (times 0 xs) 0)

-- as many numbers from 1 on as differ go at least to that many
pub length_within : (count : ℕ) (xs : List ℕ) → AreSingle xs → HoldsOf (λ n. (1 ≤ n) × (n ≤ count)) xs → length xs ≤ count
unfolding IsDistinct
length_within count xs single within =
    let none : times 0 xs ≡ 0 = none_zero xs (λ n some. (within n some).0) in
    let distinct : IsDistinct (λ x y. x == y) (0 ∷ xs) = (apart_from_none 0 xs none, apart xs single) in
    let all : length (0 ∷ xs) ≤ count + 1 = length-le_from_distinct_below (0 ∷ xs) (count + 1) distinct
    (λ q any. ⊎_elim
    (λ (h : (q == 0) ≡ true). let e = eqb-true q 0 h in omega arith)
    (λ (t : list_any (λ m. q == m) xs ≡ true). let up = (within q (any_times q xs t)).1 in omega arith)
    (or_cases (q == 0) (list_any (λ m. q == m) xs) any)) in
    omega arith
