-- The first records of some pages.
use Rattle.std.proofs.Common.{◌≡◌, ℕ, List, [], ◌∷◌, All, refl, sym, ap, ◌∙◌, Bool, true, false, Some, ⊎_elim}
use Rattle.std.specs.Prelude.{◌==◌, not}
use Rattle.std.specs.List.{find, list_any}
use Rattle.std.proofs.lemmas.Bool.{and_from, and_parts, cases_Bool, eq-eqb, eqb-true, not-true, not_from_false, or_left}
use Rattle.std.proofs.lemmas.List.Elements.{All-cons, All-nil, All-same, All-weaker}
use Rattle.spe_model.specs.Journal.{Saved}
use Rattle.spe_model.specs.Recovery.{is_of}
use Rattle.spe_model.specs.Rollback.{firsts, without}

-- a record of a page that is due, and the first of its page
abbrev pub IsFirstDue : (ℕ → Bool) → List Saved → Saved → Type 0
IsFirstDue due saved s = (due s.page ≡ true) × (find (is_of s.page) saved ≡ Some s)

find_next : (s : Saved) (ss : List Saved) (p : ℕ) → (s.page == p) ≡ false → find (is_of p) (s ∷ ss) ≡ find (is_of p) ss
find_next s ss p other = rw other refl

differ : (due : ℕ → Bool) (p q : ℕ) → due p ≡ false → due q ≡ true → (p == q) ≡ false
differ due p q no_p yes_q = ⊎_elim
    (λ (same : (p == q) ≡ true). let at : p ≡ q = eqb-true p q same in let both : false ≡ true = sym no_p ∙ ap due at ∙ yes_q in absurd cc)
    (λ (other : (p == q) ≡ false). other)
    (cases_Bool (p == q))

pub firsts_first : (due : ℕ → Bool) (saved : List Saved) → All (IsFirstDue due saved) (firsts due saved)
firsts_first due [] = All-nil (IsFirstDue due [])
firsts_first due (s ∷ ss) = ⊎_elim
    (λ (is : due s.page ≡ true).
    let taken : firsts due (s ∷ ss) ≡ s ∷ firsts (without due s.page) ss = rw is refl in
    All-same (IsFirstDue due (s ∷ ss)) (firsts due (s ∷ ss)) (s ∷ firsts (without due s.page) ss) taken
    (All-cons (IsFirstDue due (s ∷ ss)) s (firsts (without due s.page) ss)
    (is, rw (eq-eqb s.page s.page refl) refl)
    (All-weaker (IsFirstDue (without due s.page) ss) (IsFirstDue due (s ∷ ss))
    (λ r first. let parts = and_parts (due r.page) (not (s.page == r.page)) first.0 in (parts.0, find_next s ss r.page (not-true (s.page == r.page) parts.1) ∙ first.1))
    (firsts (without due s.page) ss) (firsts_first (without due s.page) ss))))
    (λ (is_not : due s.page ≡ false).
    let left : firsts due (s ∷ ss) ≡ firsts due ss = rw is_not refl in
    All-same (IsFirstDue due (s ∷ ss)) (firsts due (s ∷ ss)) (firsts due ss) left
    (All-weaker (IsFirstDue due ss) (IsFirstDue due (s ∷ ss)) (λ r first. (first.0, find_next s ss r.page (differ due s.page r.page is_not first.0) ∙ first.1)) (firsts due ss) (firsts_first due ss)))
    (cases_Bool (due s.page))

-- each page that is due and has a record has one among the first
pub firsts_any : (due : ℕ → Bool) (saved : List Saved) (p : ℕ) → due p ≡ true → list_any (is_of p) saved ≡ true → list_any (is_of p) (firsts due saved) ≡ true
firsts_any due [] p is has = has
firsts_any due (s ∷ ss) p is has = ⊎_elim
    (λ (here : (s.page == p) ≡ true).
    let same : due s.page ≡ true = ap due (eqb-true s.page p here) ∙ is in
    rw same (or_left (s.page == p) (list_any (is_of p) (firsts (without due s.page) ss)) here))
    (λ (other : (s.page == p) ≡ false).
    let more : list_any (is_of p) ss ≡ true = rw other at has in
    ⊎_elim
    (λ (taken : due s.page ≡ true).
    rw (taken, other) (firsts_any (without due s.page) ss p (and_from (due p) (not (s.page == p)) is (not_from_false (s.page == p) other)) more))
    (λ (left : due s.page ≡ false). rw left (firsts_any due ss p is more))
    (cases_Bool (due s.page)))
    (cases_Bool (s.page == p))
