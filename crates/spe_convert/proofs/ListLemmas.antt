-- Lists of numbers and of changes.
use Rattle.std.proofs.Common.{◌≡◌, ◌≢◌, ◌⊎◌, ℕ, zero, suc, ◌+◌, ◌<◌, ◌≤◌, List, [], ◌∷◌, ◌++◌, take, drop, length, map, refl, sym, ap, subst, arith, true, false, Bool, Some, None, ⊎_elim, inl, inr, eqb}
use Rattle.std.specs.Prelude.{◌||◌}
use Rattle.std.proofs.lemmas.Map.Steps.{length-le_from_distinct_below}
use Rattle.std.proofs.lemmas.Bool.{eq-eqb, ne_eqb}
use Rattle.std.proofs.lemmas.List.{take-append-drop}
use Rattle.std.specs.List.{AllByRecursion, IsDistinct, list_any}
use Rattle.spe_model.specs.Journal.{numbers_from}
use Rattle.spe_model.specs.Paging.{Paging}
use Rattle.spe_frame.specs.Times.{AreSingle, HoldsOf, times}
use Rattle.spe_frame.proofs.TimesLemmas.{Each, each_left, each_right, here, same_or_not, there, times-append}
use Rattle.spe_convert.specs.Trunk.{Trunk}
use Rattle.spe_rewrite.specs.declared.change.Change.{Change}
use Rattle.spe_rewrite.specs.Changes.{changed}
use Rattle.spe_convert.specs.Changes.{change_of}
use Rattle.spe_convert.specs.Made.{changed_pages, heads}
use Rattle.spe_convert.proofs.TrunkLemmas.{EachTrunk, all_of}

pub each_take : (P : ℕ → Type 0) (n : ℕ) (xs : List ℕ) → Each P xs → Each P (take n xs)
each_take P n xs each = each_left P (take n xs) (drop n xs) (subst (Each P) (sym (take-append-drop n xs)) each)

pub each_drop : (P : ℕ → Type 0) (n : ℕ) (xs : List ℕ) → Each P xs → Each P (drop n xs)
each_drop P n xs each = each_right P (take n xs) (drop n xs) (subst (Each P) (sym (take-append-drop n xs)) each)

pub each_append : (P : ℕ → Type 0) (xs ys : List ℕ) → Each P xs → Each P ys → Each P (xs ++ ys)
each_append P [] ys a b = b
each_append P (x ∷ xs) ys a b = (a.0, each_append P xs ys a.1 b)

pub trunk_append : (P : Trunk → Type 0) (xs ys : List Trunk) → EachTrunk P xs → EachTrunk P ys → EachTrunk P (xs ++ ys)
trunk_append P [] ys a b = b
trunk_append P (x ∷ xs) ys a b = (a.0, trunk_append P xs ys a.1 b)

pub heads_changed : (usable : ℕ) (old : Paging) (ts : List Trunk) → changed_pages (map (change_of usable old) ts) ≡ heads ts
heads_changed usable old [] = refl
heads_changed usable old (t ∷ ts) = ap (λ (ns : List ℕ). t.page ∷ ns) (heads_changed usable old ts)

pub heads_few : (n : ℕ) (ts : List Trunk) → times n (heads ts) ≤ times n (all_of ts)
heads_few n [] = omega arith
heads_few n (t ∷ ts) =
    let a = times-append n (t.page ∷ t.leaves) (all_of ts) in
    let b = heads_few n ts in
    omega (arith, a, b)

-- what holds of each change
abbrev pub EachChange : (Change → Type 0) → List Change → Type 0
EachChange P [] = Unit {0}
EachChange P (c ∷ cs) = P c × EachChange P cs

later : (x : Change) (all part : List Change) → times x.page (changed_pages part) ≡ 0 → EachChange (λ c. changed all c.page ≡ Some c.bytes) part
    → EachChange (λ c. changed (x ∷ all) c.page ≡ Some c.bytes) part
later x all [] none each = tt
later x all (c ∷ cs) none each = (
  rw (ne_eqb c.page x.page (λ (e : c.page ≡ x.page). let at = here x.page c.page (changed_pages cs) (sym e) in absurd (omega (arith, at, none)))) each.0,
  later x all cs (omega (arith, none)) each.1,
)

-- where no page changes twice, each has its bytes
pub all_laid : (cs : List Change) → AreSingle (changed_pages cs) → EachChange (λ c. changed cs c.page ≡ Some c.bytes) cs
all_laid [] single = tt
all_laid (c ∷ cs) single =
    let none : times c.page (changed_pages cs) ≡ 0 = let one = single c.page in let at = here c.page c.page (changed_pages cs) refl in omega (arith, one, at) in (
      rw (eq-eqb c.page c.page refl) refl,
      later c cs cs none (all_laid cs (λ n. let one = single n in omega (arith, one))),
    )

pub none_laid : (cs : List Change) (n : ℕ) → times n (changed_pages cs) ≡ 0 → changed cs n ≡ None
none_laid [] n none = refl
none_laid (c ∷ cs) n none = ⊎_elim
    (λ (e : n ≡ c.page). let at = here n c.page (changed_pages cs) e in absurd (omega (arith, at, none)))
    (λ (e : n ≢ c.page). rw (ne_eqb n c.page e) (none_laid cs n (omega (arith, none))))
    (same_or_not n c.page)

pub each_mapped : (Q : Change → Type 0) (usable : ℕ) (old : Paging) (ts : List Trunk) → EachChange Q (map (change_of usable old) ts) → EachTrunk (λ t. Q (change_of usable old t)) ts
each_mapped Q usable old [] each = tt
each_mapped Q usable old (t ∷ ts) each = (each.0, each_mapped Q usable old ts each.1)

pub numbers_within : (k m : ℕ) → HoldsOf (λ n. (k ≤ n) × (n < k + m)) (numbers_from k m)
numbers_within k zero n some = absurd (omega (arith, some))
numbers_within k (suc m) n some = ⊎_elim
    (λ (e : n ≡ k). (omega (arith, e), omega (arith, e)))
    (λ (e : n ≢ k). let at = there n k (numbers_from (k + 1) m) e in
    let rest = numbers_within (k + 1) m n (omega (arith, at, some)) in (omega (arith, rest.0), omega (arith, rest.1)))
    (same_or_not n k)

pub none_or_some : (n : ℕ) → (n ≡ 0) ⊎ (0 < n)
none_or_some zero = inl refl
none_or_some (suc n) = inr (omega arith)

pub numbers_lack : (k m n : ℕ) → n < k → times n (numbers_from k m) ≡ 0
numbers_lack k m n low = ⊎_elim (λ (e : times n (numbers_from k m) ≡ 0). e)
    (λ (some : 0 < times n (numbers_from k m)). let in_it = numbers_within k m n some in absurd (omega (arith, in_it.0, low)))
    (none_or_some (times n (numbers_from k m)))

pub numbers_single : (k m : ℕ) → AreSingle (numbers_from k m)
numbers_single k zero n = omega arith
numbers_single k (suc m) n = ⊎_elim
    (λ (e : n ≡ k). let at = here n k (numbers_from (k + 1) m) e in let none = numbers_lack (k + 1) m n (omega (arith, e)) in omega (arith, at, none))
    (λ (e : n ≢ k). let at = there n k (numbers_from (k + 1) m) e in let rest = numbers_single (k + 1) m n in omega (arith, at, rest))
    (same_or_not n k)

pub numbers_length : (k m : ℕ) → length (numbers_from k m) ≡ m
numbers_length k zero = refl
numbers_length k (suc m) = ap suc (numbers_length (k + 1) m)

-- the same numbers, each once and up to a bound, are no more than this
pub few_single : (xs : List ℕ) (count : ℕ) → AreSingle xs → HoldsOf (λ n. n < count) xs → length xs ≤ count
unfolding IsDistinct
few_single xs count single holds = length-le_from_distinct_below xs count (distinct xs single) (λ q is. holds q (any_times q xs is))
  where
    any_times : (q : ℕ) (ys : List ℕ) → list_any (eqb q) ys ≡ true → 0 < times q ys
    any_times q [] is = absurd cc
    any_times q (y ∷ ys) is = ⊎_elim
        (λ (e : q ≡ y). let at = here q y ys e in omega (arith, at))
        (λ (e : q ≢ y). let at = there q y ys e in
        let rest = any_times q ys (subst (λ (b : Bool). (b || list_any (eqb q) ys) ≡ true) (ne_eqb q y e) is) in omega (arith, at, rest))
        (same_or_not q y)

    apart : (x : ℕ) (ys : List ℕ) → times x ys ≡ 0 → AllByRecursion (λ y. eqb x y ≡ false) ys
    apart x [] none = tt
    apart x (y ∷ ys) none =
        (ne_eqb x y (λ (e : x ≡ y). let at = here x y ys e in absurd (omega (arith, at, none))), apart x ys (omega (arith, none)))

    distinct : (ys : List ℕ) → AreSingle ys → IsDistinct eqb ys
    distinct [] one = tt
    distinct (y ∷ ys) one = (apart y ys (let o = one y in let at = here y y ys refl in omega (arith, o, at)), distinct ys (λ n. let o = one n in omega (arith, o)))
