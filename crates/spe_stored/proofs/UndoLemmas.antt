-- The least page that is among two lists of sheets.
use Rattle.std.proofs.Common.{◌≡◌, ℕ, ◌<◌, List, [], ◌∷◌, refl, true, false, arith, Option, Some, None, Less, ⊎_elim}
use Rattle.std.specs.Prelude.{◌==◌}
use Rattle.std.specs.List.{AllByRecursion, find}
use Rattle.std.specs.List.Sorted.{IsStrictlySortedBy}
use Rattle.std.specs.Map.{keys_of}
use Rattle.std.specs.Ordering.{nat_cmp}
use Rattle.std.proofs.lemmas.Bool.{cases_Bool}
use Rattle.std.proofs.lemmas.Bool.Decides.{nat_tests}
use Rattle.spe_stored.specs.Sheets.{Sheets, sheet_at, has_sheet}

-- the first sheet whose page is among others too
abbrev pub first_of : Sheets → Sheets → Option (ℕ × List ℕ)
first_of sheets others = find (λ (s : ℕ × List ℕ). has_sheet s.0 others) sheets

pub among_none : (sheets : Sheets) → first_of sheets [] ≡ None
among_none [] = refl
among_none (s ∷ ss) = among_none ss

-- a page that is not there changes nothing
pub skipped : (sheets : Sheets) (o : ℕ × List ℕ) (os : Sheets) → sheet_at o.0 sheets ≡ None → first_of sheets (o ∷ os) ≡ first_of sheets os
skipped [] o os none = refl
skipped (s ∷ ss) o os none = ⊎_elim
    (λ (same : (s.0 == o.0) ≡ true). absurd (let impossible : Some s.1 ≡ None = rw same at none in cc))
    (λ (other : (s.0 == o.0) ≡ false).
    let later : sheet_at o.0 ss ≡ None = rw other at none in
    let apart : (o.0 == s.0) ≡ false = grind (arith, nat_tests) in
    rw (apart, skipped ss o os later) refl)
    (cases_Bool (s.0 == o.0))

-- a page that is found lies above what lies below all
found_above : (k p : ℕ) (bytes : List ℕ) (ss : Sheets) → AllByRecursion (λ (y : ℕ). nat_cmp k y ≡ Less) (keys_of ss) → sheet_at p ss ≡ Some bytes → k < p
found_above k p bytes [] above found = absurd cc
found_above k p bytes (s ∷ ss) above found = ⊎_elim
    (λ (same : (s.0 == p) ≡ true). grind (arith, nat_tests, above.0))
    (λ (other : (s.0 == p) ≡ false). found_above k p bytes ss above.1 (rw other at found))
    (cases_Bool (s.0 == p))

none_below : (k p : ℕ) (ss : Sheets) → AllByRecursion (λ (y : ℕ). nat_cmp p y ≡ Less) (keys_of ss) → k < p → sheet_at k ss ≡ None
none_below k p [] above below = refl
none_below k p (s ∷ ss) above below =
    let other : (s.0 == k) ≡ false = grind (arith, nat_tests, above.0) in
    rw other (none_below k p ss above.1 below)

pub rest_sorted : (o : ℕ × List ℕ) (os : Sheets) → IsStrictlySortedBy nat_cmp (keys_of (o ∷ os)) → IsStrictlySortedBy nat_cmp (keys_of os)
unfolding IsStrictlySortedBy
rest_sorted o os order = order.1

-- the least of the others, where it is there, is the first
pub first_is : (sheets : Sheets) (o : ℕ × List ℕ) (os : Sheets) (bytes : List ℕ) → IsStrictlySortedBy nat_cmp (keys_of sheets) → IsStrictlySortedBy nat_cmp (keys_of (o ∷ os))
    → sheet_at o.0 sheets ≡ Some bytes → first_of sheets (o ∷ os) ≡ Some (o.0, bytes)
unfolding IsStrictlySortedBy
first_is [] o os bytes sorted order found = absurd cc
first_is (s ∷ ss) o os bytes sorted order found = ⊎_elim
    (λ (same : (s.0 == o.0) ≡ true).
    let here : Some s.1 ≡ Some bytes = rw same at found in
    let is : s.1 ≡ bytes = cc in
    let own : s.0 ≡ o.0 = grind (arith, nat_tests) in
    let back : (o.0 == s.0) ≡ true = grind (arith, nat_tests) in
    let whole : Some (s.0, s.1) ≡ Some (o.0, bytes) = rw (own, is) refl in
    rw back whole)
    (λ (other : (s.0 == o.0) ≡ false).
    let later : sheet_at o.0 ss ≡ Some bytes = rw other at found in
    let below : s.0 < o.0 = found_above s.0 o.0 bytes ss sorted.0 later in
    let apart : (o.0 == s.0) ≡ false = grind (arith, nat_tests) in
    rw (apart, none_below s.0 o.0 os order.0 below) (first_is ss o os bytes sorted.1 order later))
    (cases_Bool (s.0 == o.0))
