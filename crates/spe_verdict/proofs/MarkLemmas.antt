-- When no mark is broken: each test is kept, and the pages that are named differ and are pages of the file.
use Rattle.std.proofs.Common.{◌≡◌, ◌≢◌, ℕ, ◌+◌, ◌<◌, ◌≤◌, List, [], ◌∷◌, ◌++◌, refl, sym, subst, ◌∙◌, arith, Bool, true, false, Option, Some, None, ⊎_elim}
use Rattle.std.specs.Prelude.{◌==◌, not, nat_le, if◌then◌else◌}
use Rattle.std.specs.List.{list_any}
use Rattle.std.proofs.lemmas.Bool.{and_from, and_parts, cases_Bool, eq-eqb, eqb-true, eqb-false, or_cases, or_parts, not-false, le-leb, leb-true}
use Rattle.spe_model.specs.Standing.{IsOneOf}
use Rattle.spe_model.specs.Walk.{Mark, Names, Keeps, first_broken, is_met, is_one_of}
use Rattle.spe_verdict.proofs.TimesLemmas.{here, there, same_or_not, times}

-- the pages that marks name
abbrev pub named : List Mark → List ℕ
named [] = []
named (Names holder page ∷ marks) = page ∷ named marks
named (Keeps page rule kept ∷ marks) = named marks

-- each test among marks is kept
abbrev pub AreKept : List Mark → Type 0
AreKept [] = Unit {0}
AreKept (Names holder page ∷ marks) = AreKept marks
AreKept (Keeps page rule kept ∷ marks) = (kept ≡ true) × AreKept marks

pub named-append : (xs ys : List Mark) → named (xs ++ ys) ≡ named xs ++ named ys
named-append [] ys = refl
named-append (Names holder page ∷ xs) ys = rw (named-append xs ys)
named-append (Keeps page rule kept ∷ xs) ys = named-append xs ys

pub kept-append : (xs ys : List Mark) → AreKept xs → AreKept ys → AreKept (xs ++ ys)
kept-append [] ys a b = b
kept-append (Names holder page ∷ xs) ys a b = kept-append xs ys a b
kept-append (Keeps page rule kept ∷ xs) ys a b = (a.0, kept-append xs ys a.1 b)

pub kept_parts : (xs ys : List Mark) → AreKept (xs ++ ys) → AreKept xs × AreKept ys
kept_parts [] ys all = (tt, all)
kept_parts (Names holder page ∷ xs) ys all = kept_parts xs ys all
kept_parts (Keeps page rule kept ∷ xs) ys all = let parts = kept_parts xs ys all.1 in ((all.0, parts.0), parts.1)

met_times : (met : List ℕ) (page : ℕ) → is_met met page ≡ true → 0 < times page met
met_times [] page is = absurd cc
met_times (m ∷ ms) page is = ⊎_elim
    (λ (h : (m == page) ≡ true). let same : (page == m) ≡ true = eq-eqb page m (sym (eqb-true m page h)) in rw same (omega arith))
    (λ (t : list_any (λ p. p == page) ms ≡ true). let rest = met_times ms page t in omega arith)
    (or_cases (m == page) (list_any (λ p. p == page) ms) is)

unmet_times : (met : List ℕ) (page : ℕ) → is_met met page ≡ false → times page met ≡ 0
unmet_times [] page is = refl
unmet_times (m ∷ ms) page is =
    let parts = or_parts (m == page) (list_any (λ p. p == page) ms) is in
    there page m ms (λ (e : page ≡ m). eqb-false m page parts.0 (sym e)) ∙ unmet_times ms page parts.1

one_of : (count page : ℕ) → is_one_of count page ≡ true → IsOneOf count page
one_of count page is =
    let parts = and_parts (nat_le 1 page) (nat_le page count) is in (leb-true 1 page parts.0, leb-true page count parts.1)

is_one : (count page : ℕ) → IsOneOf count page → is_one_of count page ≡ true
is_one count page is = and_from (nat_le 1 page) (nat_le page count) (le-leb 1 page is.0) (le-leb page count is.1)

-- each page that is named is one of the file, and is named once and not met before
abbrev pub AreFresh : (count : ℕ) (met pages : List ℕ) → Type 0
AreFresh count met pages = (n : ℕ) → 0 < times n pages → IsOneOf count n × (times n pages + times n met ≤ 1)

fresh_head : (count : ℕ) (met : List ℕ) (page : ℕ) (pages : List ℕ) → AreFresh count met (page ∷ pages) → (is_one_of count page ≡ true) × (is_met met page ≡ false)
fresh_head count met page pages fresh =
    let self : (page == page) ≡ true = eq-eqb page page refl in
    let some : times page (page ∷ pages) ≡ 1 + times page pages = rw self refl in
    let at = fresh page (omega arith) in (
      is_one count page at.0,
      ⊎_elim
          (λ (t : is_met met page ≡ true). let more = met_times met page t in absurd (omega arith))
          (λ (f : is_met met page ≡ false). f)
          (cases_Bool (is_met met page)),
    )

fresh_tail : (count : ℕ) (met : List ℕ) (page : ℕ) (pages : List ℕ) → AreFresh count met (page ∷ pages) → AreFresh count (page ∷ met) pages
fresh_tail count met page pages fresh n some = let at = fresh n (omega arith) in (at.0, omega arith)

fresh_more : (count : ℕ) (met : List ℕ) (page : ℕ) (pages : List ℕ)
    → IsOneOf count page → times page met ≡ 0 → AreFresh count (page ∷ met) pages → AreFresh count met (page ∷ pages)
fresh_more count met page pages one none fresh n some = ⊎_elim
    (λ (e : n ≡ page).
    let here_pages = here n page pages e in
    let here_met = here n page met e in
    let met_none : times n met ≡ 0 = subst (λ (m : ℕ). times m met ≡ 0) (sym e) none in
    let once : times n pages ≡ 0 = ⊎_elim
    (λ (z : times n pages ≡ 0). z)
    (λ (z : times n pages ≢ 0). let at = fresh n (omega arith) in absurd (omega arith))
    (same_or_not (times n pages) 0) in
    (subst (λ (m : ℕ). IsOneOf count m) (sym e) one, omega arith))
    (λ (e : n ≢ page).
    let there_pages = there n page pages e in
    let there_met = there n page met e in
    let at = fresh n (omega arith) in
    (at.0, omega arith))
    (same_or_not n page)

-- what marks that are not broken say
pub record AreUnbroken (count : ℕ) (met : List ℕ) (marks : List Mark) : Type 0 where
  pub kept : AreKept marks
  pub fresh : AreFresh count met (named marks)

broken_or : (b : Bool) (broken : ℕ × ℕ) (rest : Option (ℕ × ℕ)) → (if b then Some broken else rest) ≡ None → (b ≡ false) × (rest ≡ None)
broken_or true broken rest none = absurd cc
broken_or false broken rest none = (refl, none)

kept_or : (b : Bool) (broken : ℕ × ℕ) (rest : Option (ℕ × ℕ)) → (if b then rest else Some broken) ≡ None → (b ≡ true) × (rest ≡ None)
kept_or true broken rest none = (refl, none)
kept_or false broken rest none = absurd cc

pub unbroken : (count : ℕ) (met : List ℕ) (marks : List Mark) → first_broken count met marks ≡ None → AreUnbroken count met marks
unbroken count met [] none = record { kept = tt; fresh = λ n some. absurd (omega arith) }
unbroken count met (Names holder page ∷ marks) none =
    let one = broken_or (not (is_one_of count page)) (holder, 1) (if is_met met page then Some (page, 2) else first_broken count (page ∷ met) marks) none in
    let two = broken_or (is_met met page) (page, 2) (first_broken count (page ∷ met) marks) one.1 in
    let rest = unbroken count (page ∷ met) marks two.1 in
    record {
      kept = rest.kept;
      fresh = fresh_more count met page (named marks) (one_of count page (not-false (is_one_of count page) one.0)) (unmet_times met page two.0) rest.fresh;
    }
unbroken count met (Keeps page rule kept ∷ marks) none =
    let first = kept_or kept (page, rule) (first_broken count met marks) none in
    let rest = unbroken count met marks first.1 in
    record { kept = (first.0, rest.kept); fresh = rest.fresh }

pub none_broken : (count : ℕ) (met : List ℕ) (marks : List Mark) → AreKept marks → AreFresh count met (named marks) → first_broken count met marks ≡ None
none_broken count met [] kept fresh = refl
none_broken count met (Names holder page ∷ marks) kept fresh =
    let first = fresh_head count met page (named marks) fresh in
    let rest = none_broken count (page ∷ met) marks kept (fresh_tail count met page (named marks) fresh) in
    rw (first.0, first.1) rest
none_broken count met (Keeps page rule test ∷ marks) kept fresh = rw kept.0 (none_broken count met marks kept.1 fresh)
