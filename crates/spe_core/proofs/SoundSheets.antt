-- Entries by number: what is first of a number, as entries are put in and taken out.
use Rattle.std.proofs.Common.{◌≡◌, ◌≢◌, ℕ, ◌<◌, List, [], ◌∷◌, refl, sym, ap, ◌∙◌, arith, Bool, true, false, cond, Option, Some, None, ⊎_elim, subst}
use Rattle.std.specs.Prelude.{◌==◌, not, nat_lt, filter, is_some}
use Rattle.std.specs.List.{find, list_any, list_all}
use Rattle.std.specs.Ordering.{nat_cmp}
use Rattle.std.specs.BTreeMap.{insert_entry}
use Rattle.std.proofs.lemmas.Bool.{cases_Bool, cases_order, cases_eq, and_parts, eq-eqb, ne_eqb, or_parts}
use Rattle.std.proofs.lemmas.Bool.Decides.{nat_tests}
use Rattle.spe_stored.specs.Sheets.{Sheets, sheet_at, with_sheet, without_sheet}
use Rattle.spe_core.specs.State.{Live, live_in}

-- the first entry of a number
abbrev pub first_at : {X : Type 0} → ℕ → List (ℕ × X) → Option X
first_at k [] = None
first_at k (e ∷ es) = cond (e.0 == k) (Some e.1) (first_at k es)

abbrev without_at : {X : Type 0} → ℕ → List (ℕ × X) → List (ℕ × X)
without_at k es = filter (λ e. not (e.0 == k)) es

pub sheet_first : (p : ℕ) (sheets : Sheets) → sheet_at p sheets ≡ first_at p sheets
sheet_first p [] = refl
sheet_first p (s ∷ ss) = ap (cond (s.0 == p) (Some s.1)) (sheet_first p ss)

pub live_first : (id : ℕ) (live : List (ℕ × Live)) → live_in id live ≡ first_at id live
live_first id [] = refl
live_first id (t ∷ ts) = ap (cond (t.0 == id) (Some t.1)) (live_first id ts)

put_same : {X : Type 0} (k : ℕ) (v : X) (es : List (ℕ × X)) → first_at k (insert_entry nat_cmp es k v) ≡ Some v
put_same k v [] = let own : (k == k) ≡ true = grind (arith, nat_tests) in rw own refl
put_same k v (e ∷ es) = ⊎_elim
    (λ (same : k ≡ e.0).
    let less : nat_lt k e.0 ≡ false = grind (arith, nat_tests) in
    let here : (k == e.0) ≡ true = grind (arith, nat_tests) in
    let own : (e.0 == k) ≡ true = grind (arith, nat_tests) in
    rw (less, here) (rw own refl))
    (⊎_elim
    (λ (below : k < e.0).
    let less : nat_lt k e.0 ≡ true = grind (arith, nat_tests) in
    let own : (k == k) ≡ true = grind (arith, nat_tests) in
    rw less (rw own refl))
    (λ (above : e.0 < k).
    let less : nat_lt k e.0 ≡ false = grind (arith, nat_tests) in
    let here : (k == e.0) ≡ false = grind (arith, nat_tests) in
    let own : (e.0 == k) ≡ false = grind (arith, nat_tests) in
    rw (less, here) (rw own (put_same k v es))))
    (cases_order k e.0)

put_other : {X : Type 0} (k q : ℕ) (v : X) (es : List (ℕ × X)) → q ≢ k → first_at q (insert_entry nat_cmp es k v) ≡ first_at q es
put_other k q v [] other = let no_own : (k == q) ≡ false = grind (arith, nat_tests) in rw no_own refl
put_other k q v (e ∷ es) other = ⊎_elim
    (λ (same : k ≡ e.0).
    let less : nat_lt k e.0 ≡ false = grind (arith, nat_tests) in
    let here : (k == e.0) ≡ true = grind (arith, nat_tests) in
    let own : (e.0 == q) ≡ false = grind (arith, nat_tests) in
    rw (less, here) (rw own refl))
    (⊎_elim
    (λ (below : k < e.0).
    let less : nat_lt k e.0 ≡ true = grind (arith, nat_tests) in
    let own : (k == q) ≡ false = grind (arith, nat_tests) in
    rw less (rw own refl))
    (λ (above : e.0 < k).
    let less : nat_lt k e.0 ≡ false = grind (arith, nat_tests) in
    let here : (k == e.0) ≡ false = grind (arith, nat_tests) in
    rw (less, here) (rw (put_other k q v es other) refl)))
    (cases_order k e.0)

take_same : {X : Type 0} (k : ℕ) (es : List (ℕ × X)) → first_at k (without_at k es) ≡ None
take_same k [] = refl
take_same k (e ∷ es) = ⊎_elim
    (λ (here : (e.0 == k) ≡ true). rw here (take_same k es))
    (λ (not_here : (e.0 == k) ≡ false). rw not_here (rw not_here (take_same k es)))
    (cases_Bool (e.0 == k))

take_other : {X : Type 0} (k q : ℕ) (es : List (ℕ × X)) → q ≢ k → first_at q (without_at k es) ≡ first_at q es
take_other k q [] other = refl
take_other k q (e ∷ es) other = ⊎_elim
    (λ (here : e.0 ≡ k).
    let own : (e.0 == k) ≡ true = grind (arith, nat_tests) in
    let no_q : (e.0 == q) ≡ false = grind (arith, nat_tests) in
    rw own (rw no_q (take_other k q es other)))
    (λ (not_here : e.0 ≢ k).
    let no_own : (e.0 == k) ≡ false = grind (arith, nat_tests) in
    rw no_own (rw (take_other k q es other) refl))
    (cases_eq e.0 k)

-- a test of the number that no entry passes is not passed by the first of a number
pub none_passes : {X : Type 0} (test : ℕ → Bool) (k : ℕ) (es : List (ℕ × X)) → list_any (λ (e : ℕ × X). test e.0) es ≡ false → is_some (first_at k es) ≡ true → test k ≡ false
none_passes test k [] lacks has = absurd cc
none_passes test k (e ∷ es) lacks has =
    let parts = or_parts (test e.0) (list_any (λ e. test e.0) es) lacks in
    ⊎_elim
    (λ (here : e.0 ≡ k). rw here at parts.0)
    (λ (not_here : e.0 ≢ k).
    let no_own : (e.0 == k) ≡ false = grind (arith, nat_tests) in
    none_passes test k es parts.1 (rw no_own at has))
    (cases_eq e.0 k)

pub all_pass : {X : Type 0} (test : X → Bool) (k : ℕ) (v : X) (es : List (ℕ × X)) → list_all (λ (e : ℕ × X). test e.1) es ≡ true → first_at k es ≡ Some v → test v ≡ true
all_pass test k v [] passed found = absurd cc
all_pass {X} test k v (e ∷ es) passed found =
    let parts = and_parts (test e.1) (list_all (λ e. test e.1) es) passed in
    ⊎_elim
    (λ (here : (e.0 == k) ≡ true).
    let is : Some e.1 ≡ Some v = rw here at found in
    let same : e.1 ≡ v = cc in
    subst (λ (x : X). test x ≡ true) same parts.0)
    (λ (not_here : (e.0 == k) ≡ false). all_pass test k v es parts.1 (rw not_here at found))
    (cases_Bool (e.0 == k))

-- the entry that a test of numbers finds is the first of its number
pub found_first : {X : Type 0} (test : ℕ → Bool) (x : ℕ × X) (es : List (ℕ × X)) → find (λ (e : ℕ × X). test e.0) es ≡ Some x → first_at x.0 es ≡ Some x.1
found_first test x [] found = absurd cc
found_first {X} test x (e ∷ es) found = ⊎_elim
    (λ (here : test e.0 ≡ true).
    let is : Some e ≡ Some x = rw here at found in
    let same : e ≡ x = cc in
    let own : (e.0 == x.0) ≡ true = eq-eqb e.0 x.0 (ap (λ (z : ℕ × X). z.0) same) in
    rw own (ap (λ (z : ℕ × X). Some z.1) same))
    (λ (not_here : test e.0 ≡ false).
    let later : find (λ (y : ℕ × X). test y.0) es ≡ Some x = rw not_here at found in
    let other : (e.0 == x.0) ≡ false = ne_eqb e.0 x.0 (λ same. let both : false ≡ true = sym not_here ∙ ap test same ∙ passes x es later in cc) in
    rw other (found_first test x es later))
    (cases_Bool (test e.0))
  where
    passes : (y : ℕ × X) (ys : List (ℕ × X)) → find (λ (z : ℕ × X). test z.0) ys ≡ Some y → test y.0 ≡ true
    passes y [] none = absurd cc
    passes y (z ∷ zs) some = ⊎_elim
        (λ (here : test z.0 ≡ true). let is : Some z ≡ Some y = rw here at some in let same : z ≡ y = cc in sym (ap (λ (w : ℕ × X). test w.0) same) ∙ here)
        (λ (not_here : test z.0 ≡ false). passes y zs (rw not_here at some))
        (cases_Bool (test z.0))

pub found_some : {X : Type 0} (test : X → Bool) (xs : List X) → list_any test xs ≡ true → (x : X) × (find test xs ≡ Some x)
found_some test [] some = absurd cc
found_some {X} test (y ∷ ys) some = ⊎_elim
    (λ (here : test y ≡ true). (y, rw here refl))
    (λ (not_here : test y ≡ false).
    let later = found_some test ys (rw not_here at some) in
    (later.0, rw not_here later.1))
    (cases_Bool (test y))

-- a page that is put in, and one that is taken out
pub with_same : (p : ℕ) (bytes : List ℕ) (sheets : Sheets) → sheet_at p (with_sheet p bytes sheets) ≡ Some bytes
with_same p bytes sheets = sheet_first p (with_sheet p bytes sheets) ∙ put_same p bytes sheets

pub with_other : (p q : ℕ) (bytes : List ℕ) (sheets : Sheets) → q ≢ p → sheet_at q (with_sheet p bytes sheets) ≡ sheet_at q sheets
with_other p q bytes sheets other = sheet_first q (with_sheet p bytes sheets) ∙ put_other p q bytes sheets other ∙ sym (sheet_first q sheets)

pub without_same : (p : ℕ) (sheets : Sheets) → sheet_at p (without_sheet p sheets) ≡ None
without_same p sheets = sheet_first p (without_sheet p sheets) ∙ take_same p sheets

pub without_other : (p q : ℕ) (sheets : Sheets) → q ≢ p → sheet_at q (without_sheet p sheets) ≡ sheet_at q sheets
without_other p q sheets other = sheet_first q (without_sheet p sheets) ∙ take_other p q sheets other ∙ sym (sheet_first q sheets)

pub live_same : (id : ℕ) (t : Live) (live : List (ℕ × Live)) → live_in id (insert_entry nat_cmp live id t) ≡ Some t
live_same id t live = live_first id (insert_entry nat_cmp live id t) ∙ put_same id t live

pub live_other : (id other : ℕ) (t : Live) (live : List (ℕ × Live)) → other ≢ id → live_in other (insert_entry nat_cmp live id t) ≡ live_in other live
live_other id other t live apart = live_first other (insert_entry nat_cmp live id t) ∙ put_other id other t live apart ∙ sym (live_first other live)
