-- Numbers that ascend.
use Rattle.std.proofs.Common.{◌≡◌, ◌≢◌, ℕ, zero, suc, ◌+◌, ◌<◌, ◌≤◌, List, [], ◌∷◌, drop, length, refl, sym, subst, arith, true, All, ⊎_elim}
use Rattle.std.specs.Prelude.{◌&&◌, nat_le, nat_lt}
use Rattle.std.proofs.lemmas.Bool.{and_parts, le-leb, leb-true, lt-ltb, ltb-true}
use Rattle.spe_model.specs.Standing.{IsOneOf}
use Rattle.spe_frame.specs.Times.{AreSingle, HoldsOf, times}
use Rattle.spe_frame.proofs.TimesLemmas.{all_from_holds, here, same_or_not, there}
use Rattle.spe_rewrite.specs.declared.change.Change.{Change}
use Rattle.spe_rewrite.specs.Changes.{Ascend}
use Rattle.spe_convert.specs.Dealt.{chained}
use Rattle.spe_convert.specs.Made.{changed_pages, heads}
use Rattle.spe_convert.specs.Reading.{are_ascending}
use Rattle.spe_convert.proofs.LaidLemmas.{AreApart}
use Rattle.spe_convert.proofs.ListLemmas.{none_or_some}

-- what is so of the first and of those behind it
pub first_ascends : (below most n : ℕ) (ns : List ℕ) → are_ascending below most (n ∷ ns) ≡ true → (below < n) × (n ≤ most) × (are_ascending n most ns ≡ true)
first_ascends below most n ns is =
    let outer = and_parts (nat_lt below n && nat_le n most) (are_ascending n most ns) is in
    let inner = and_parts (nat_lt below n) (nat_le n most) outer.0 in
    (ltb-true below n inner.0, leb-true n most inner.1, outer.1)

-- they ascend from any lower bound
lower_ascends : (below less most : ℕ) (ns : List ℕ) → less ≤ below → are_ascending below most ns ≡ true → are_ascending less most ns ≡ true
lower_ascends below less most [] low is = refl
lower_ascends below less most (n ∷ ns) low is =
    let f = first_ascends below most n ns is in
    let up : less < n = omega (arith, low, f.0) in
    rw (lt-ltb less n up, le-leb n most f.1, f.2) refl

pub drop_ascends : (k below most : ℕ) (ns : List ℕ) → are_ascending below most ns ≡ true → are_ascending below most (drop k ns) ≡ true
drop_ascends zero below most ns is = is
drop_ascends (suc k) below most [] is = refl
drop_ascends (suc k) below most (n ∷ ns) is =
    let f = first_ascends below most n ns is in
    drop_ascends k below most ns (lower_ascends n below most ns (omega (arith, f.0)) f.2)

pub within_ascending : (below most : ℕ) (ns : List ℕ) → are_ascending below most ns ≡ true → HoldsOf (λ n. (below < n) × (n ≤ most)) ns
within_ascending below most [] is n some = absurd (omega (arith, some))
within_ascending below most (m ∷ ms) is n some =
    let f = first_ascends below most m ms is in
    ⊎_elim
    (λ (e : n ≡ m). (omega (arith, e, f.0), omega (arith, e, f.1)))
    (λ (e : n ≢ m). let at = there n m ms e in let rest = within_ascending m most ms f.2 n (omega (arith, at, some)) in (omega (arith, rest.0, f.0), rest.1))
    (same_or_not n m)

lacks_low : (below most n : ℕ) (ns : List ℕ) → n ≤ below → are_ascending below most ns ≡ true → times n ns ≡ 0
lacks_low below most n ns low is = ⊎_elim
    (λ (none : times n ns ≡ 0). none)
    (λ (some : 0 < times n ns). let inside = within_ascending below most ns is n some in absurd (omega (arith, inside.0, low)))
    (none_or_some (times n ns))

single_ascending : (below most : ℕ) (ns : List ℕ) → are_ascending below most ns ≡ true → AreSingle ns
single_ascending below most [] is n = omega arith
single_ascending below most (m ∷ ms) is n =
    let f = first_ascends below most m ms is in
    let rest = single_ascending m most ms f.2 n in
    ⊎_elim
    (λ (e : n ≡ m). let at = here n m ms e in let none = lacks_low m most n ms (omega (arith, e)) f.2 in omega (arith, at, none))
    (λ (e : n ≢ m). let at = there n m ms e in omega (arith, at, rest))
    (same_or_not n m)

-- there are no more of them than the greatest
few_above : (below most : ℕ) (ns : List ℕ) → below ≤ most → are_ascending below most ns ≡ true → length ns + below ≤ most
few_above below most [] low is = omega (arith, low)
few_above below most (n ∷ ns) low is =
    let f = first_ascends below most n ns is in
    let rest = few_above n most ns f.1 f.2 in
    omega (arith, rest, f.0)

pub few_ascending : (below most : ℕ) (ns : List ℕ) → are_ascending below most ns ≡ true → length ns ≤ most
few_ascending below most [] is = omega arith
few_ascending below most (n ∷ ns) is =
    let f = first_ascends below most n ns is in
    let rest = few_above n most ns f.1 f.2 in
    omega (arith, rest, f.0)

-- numbers above 1 are pages, each once, and page 1 is none of them
pub ascends_apart : (count : ℕ) (free : List ℕ) → 1 ≤ count → are_ascending 1 count free ≡ true → AreApart count free
ascends_apart count free some is = record {
  single = single_ascending 1 count free is;
  within = λ n in_it. let inside = within_ascending 1 count free is n in_it in (omega (arith, inside.0), inside.1);
  lacks = lacks_low 1 count 1 free (omega arith) is;
  some = some;
}

pub all_inside : (count : ℕ) (free : List ℕ) → are_ascending 1 count free ≡ true → All (IsOneOf count) free
all_inside count free is =
    all_from_holds (IsOneOf count) free (λ n in_it. let inside = within_ascending 1 count free is n in_it in (omega (arith, inside.0), inside.1))

-- each number is above the one before it
abbrev pub Rise : (below : ℕ) → List ℕ → Type 0
Rise below [] = Unit {0}
Rise below (n ∷ ns) = (below < n) × Rise n ns

-- the trunks of a list ascend as its pages do
pub chained_rise : (most count below top : ℕ) (pages : List ℕ) → are_ascending below top pages ≡ true → Rise below (heads (chained most count pages))
chained_rise most zero below top pages is = tt
chained_rise most (suc count) below top [] is = tt
chained_rise most (suc count) below top (p ∷ ps) is =
    let f = first_ascends below top p ps is in
    (f.0, chained_rise most count p top (drop most ps) (drop_ascends most p top ps f.2))

ascend_from : (below : ℕ) (cs : List Change) → Rise below (changed_pages cs) → Ascend below cs
ascend_from below [] rise = tt
ascend_from below (c ∷ cs) rise = (rise.0, ascend_from c.page cs rise.1)

-- changes whose pages are those of numbers that ascend
pub ascend_by : (below : ℕ) (cs : List Change) (ns : List ℕ) → changed_pages cs ≡ ns → Rise below ns → Ascend below cs
ascend_by below cs ns are rise = ascend_from below cs (subst (Rise below) (sym are) rise)
