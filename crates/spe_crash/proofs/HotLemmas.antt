-- The records of several journals together: which journals hold a page, and its first record.
use Rattle.std.proofs.Common.{◌≡◌, ◌≢◌, ℕ, zero, suc, ◌+◌, ◌<◌, ◌≤◌, List, [], ◌∷◌, length, refl, arith, sym, ap, ◌∙◌, Bool, true, false, cond, Option, Some, None, ⊎_elim, inl, inr}
use Rattle.std.specs.Prelude.{◌==◌, ◌||◌, is_some, nat_le, filter, ◌⊎◌}
use Rattle.std.specs.List.{find, list_any, flat_map}
use Rattle.std.specs.Option.{option_or}
use Rattle.std.proofs.lemmas.Bool.{cases_Bool, cases_eq, cases_order, or_left}
use Rattle.std.proofs.lemmas.Bool.Decides.{nat_tests}
use Rattle.std.proofs.lemmas.List.Folds.{find-append, list_any-append}
use Rattle.spe_model.specs.Journal.{Saved, numbers_from}
use Rattle.spe_model.specs.Recovery.{is_of, least}

-- the records of the journals from n on, of which there are so many
abbrev pub records_in : (ℕ → List Saved) → (n count : ℕ) → List Saved
records_in hot n count = flat_map hot (numbers_from n count)

abbrev pub holds : (ℕ → List Saved) → (p id : ℕ) → Bool
holds hot p id = list_any (is_of p) (hot id)

abbrev pub holders_in : (ℕ → List Saved) → (n count p : ℕ) → List ℕ
holders_in hot n count p = filter (holds hot p) (numbers_from n count)

-- the least page that two of the journals hold
abbrev pub shared_in : (ℕ → List Saved) → (n count : ℕ) → Option ℕ
shared_in hot n count = least (filter (λ s. nat_le 2 (length (holders_in hot n count s.page))) (records_in hot n count))

-- no two of the journals hold one page
abbrev pub AreApart : (ℕ → List Saved) → (n count : ℕ) → Type 0
AreApart hot n count = (p i j : ℕ) → n ≤ i → i < n + count → n ≤ j → j < n + count → holds hot p i ≡ true → holds hot p j ≡ true → i ≡ j

pub find_any : (p : ℕ) (saved : List Saved) → is_some (find (is_of p) saved) ≡ list_any (is_of p) saved
find_any p [] = refl
find_any p (s ∷ ss) = by_test (s.page == p) s (find (is_of p) ss) (list_any (is_of p) ss) (find_any p ss)
  where
    by_test : (b : Bool) (s : Saved) (found : Option Saved) (more : Bool) → is_some found ≡ more → is_some (cond b (Some s) found) ≡ (b || more)
    by_test true s found more same = refl
    by_test false s found more same = same

find_no : (p : ℕ) (saved : List Saved) → list_any (is_of p) saved ≡ false → find (is_of p) saved ≡ None
find_no p saved lacks = by_found (find (is_of p) saved) (find_any p saved ∙ lacks)
  where
    by_found : (found : Option Saved) → is_some found ≡ false → found ≡ None
    by_found None e = refl
    by_found (Some s) e = absurd cc

-- no journal holds the page
pub find_none : (hot : ℕ → List Saved) (p n count : ℕ) → ((i : ℕ) → n ≤ i → i < n + count → holds hot p i ≡ false) → find (is_of p) (records_in hot n count) ≡ None
find_none hot p n zero lacks = refl
find_none hot p n (suc count) lacks =
    find-append (is_of p) (hot n) (records_in hot (n + 1) count)
    ∙ rw (find_no p (hot n) (lacks n (omega arith) (omega arith)), find_none hot p (n + 1) count (λ i low high. lacks i (omega arith) (omega arith))) refl

-- each journal has the same first record of the page
pub find_same : (hot other : ℕ → List Saved) (p n count : ℕ) → ((i : ℕ) → n ≤ i → i < n + count → find (is_of p) (hot i) ≡ find (is_of p) (other i))
    → find (is_of p) (records_in hot n count) ≡ find (is_of p) (records_in other n count)
find_same hot other p n zero same = refl
find_same hot other p n (suc count) same =
    find-append (is_of p) (hot n) (records_in hot (n + 1) count)
    ∙ rw (same n (omega arith) (omega arith), find_same hot other p (n + 1) count (λ i low high. same i (omega arith) (omega arith))) refl
    ∙ sym (find-append (is_of p) (other n) (records_in other (n + 1) count))

-- a page that a journal holds is among the records
pub held_somewhere : (hot : ℕ → List Saved) (p n count i : ℕ) → n ≤ i → i < n + count → holds hot p i ≡ true → list_any (is_of p) (records_in hot n count) ≡ true
held_somewhere hot p n zero i low high has = absurd (omega arith)
held_somewhere hot p n (suc count) i low high has =
    list_any-append (is_of p) (hot n) (records_in hot (n + 1) count)
    ∙ ⊎_elim
    (λ (here : i ≡ n). or_left (holds hot p n) (list_any (is_of p) (records_in hot (n + 1) count)) (rw here at has))
    (λ (other : i ≢ n).
    or_right (holds hot p n) (list_any (is_of p) (records_in hot (n + 1) count)) (held_somewhere hot p (n + 1) count i (omega arith) (omega arith) has))
    (cases_eq i n)
  where
    or_right : (a b : Bool) → b ≡ true → (a || b) ≡ true
    or_right true b e = refl
    or_right false b e = e

-- how many of some numbers pass a test
pass_one : (test : ℕ → Bool) (n count i : ℕ) → n ≤ i → i < n + count → test i ≡ true → 1 ≤ length (filter test (numbers_from n count))
pass_one test n zero i low high yes_i = absurd (omega arith)
pass_one test n (suc count) i low high yes_i = ⊎_elim
    (λ (here : test n ≡ true). rw here (omega arith))
    (λ (not_here : test n ≡ false).
    rw not_here
    (⊎_elim
    (λ (at : i ≡ n). absurd (let is : test n ≡ true = rw at at yes_i in cc))
    (λ (other : i ≢ n). pass_one test (n + 1) count i (omega arith) (omega arith) yes_i)
    (cases_eq i n)))
    (cases_Bool (test n))

pass_two : (test : ℕ → Bool) (n count i j : ℕ) → n ≤ i → i < j → j < n + count → test i ≡ true → test j ≡ true → 2 ≤ length (filter test (numbers_from n count))
pass_two test n zero i j low apart high yes_i yes_j = absurd (omega arith)
pass_two test n (suc count) i j low apart high yes_i yes_j = ⊎_elim
    (λ (here : test n ≡ true).
    rw here (let more : 1 ≤ length (filter test (numbers_from (n + 1) count)) = pass_one test (n + 1) count j (omega arith) (omega arith) yes_j in omega arith))
    (λ (not_here : test n ≡ false).
    rw not_here
    (⊎_elim
    (λ (at : i ≡ n). absurd (let is : test n ≡ true = rw at at yes_i in cc))
    (λ (other : i ≢ n). pass_two test (n + 1) count i j (omega arith) apart (omega arith) yes_i yes_j)
    (cases_eq i n)))
    (cases_Bool (test n))

pass_none : (test : ℕ → Bool) (n count : ℕ) → ((i : ℕ) → n ≤ i → i < n + count → test i ≡ false) → filter test (numbers_from n count) ≡ []
pass_none test n zero none = refl
pass_none test n (suc count) none = rw (none n (omega arith) (omega arith)) (pass_none test (n + 1) count (λ i low high. none i (omega arith) (omega arith)))

pass_few : (test : ℕ → Bool) (n count : ℕ) → ((i j : ℕ) → n ≤ i → i < n + count → n ≤ j → j < n + count → test i ≡ true → test j ≡ true → i ≡ j)
    → length (filter test (numbers_from n count)) ≤ 1
pass_few test n zero one = omega arith
pass_few test n (suc count) one = ⊎_elim
    (λ (here : test n ≡ true).
    let none : filter test (numbers_from (n + 1) count) ≡ [] =
    pass_none test (n + 1) count (λ i low high. false_from (test i) (λ is. let same : n ≡ i = one n i (omega arith) (omega arith) (omega arith) (omega arith) here is in omega arith)) in
    rw (here, none) (omega arith))
    (λ (not_here : test n ≡ false).
    rw not_here (pass_few test (n + 1) count (λ i j low high from to yes_i yes_j. one i j (omega arith) (omega arith) (omega arith) (omega arith) yes_i yes_j)))
    (cases_Bool (test n))
  where
    false_from : (b : Bool) → (b ≡ true → ⊥) → b ≡ false
    false_from true no_b = absurd (no_b refl)
    false_from false no_b = refl

-- a least page, where some record passes
least_some : (test pass : Saved → Bool) (saved : List Saved) → ((s : Saved) → pass s ≡ true → test s ≡ true) → list_any pass saved ≡ true → least (filter test saved) ≡ None → ⊥
least_some test pass [] means some none = absurd cc
least_some test pass (s ∷ ss) means some none = ⊎_elim
    (λ (here : test s ≡ true). let found = rw here at none in absurd cc)
    (λ (not_here : test s ≡ false).
    least_some test pass ss means (rest (pass s) (list_any pass ss) (λ is. let both : test s ≡ true = means s is in cc) some) (rw not_here at none))
    (cases_Bool (test s))
  where
    rest : (a b : Bool) → (a ≡ true → ⊥) → (a || b) ≡ true → b ≡ true
    rest true b no_a e = absurd (no_a refl)
    rest false b no_a e = e

shared_some : (hot : ℕ → List Saved) (n count p i j : ℕ) → n ≤ i → i < j → j < n + count → holds hot p i ≡ true → holds hot p j ≡ true → shared_in hot n count ≡ None → ⊥
shared_some hot n count p i j low apart high has_i has_j none =
    let two : 2 ≤ length (holders_in hot n count p) = pass_two (holds hot p) n count i j low apart high has_i has_j in
    least_some (λ s. nat_le 2 (length (holders_in hot n count s.page))) (is_of p) (records_in hot n count)
    (λ s is. let at : s.page ≡ p = grind (arith, nat_tests) in rw at (let enough : nat_le 2 (length (holders_in hot n count p)) ≡ true = grind (arith, nat_tests) in enough))
    (held_somewhere hot p n count i low (omega arith) has_i) none

pub apart_from : (hot : ℕ → List Saved) (n count : ℕ) → shared_in hot n count ≡ None → AreApart hot n count
apart_from hot n count none p i j low high from to has_i has_j = ⊎_elim
    (λ (same : i ≡ j). same)
    (⊎_elim
    (λ (below : i < j). absurd (shared_some hot n count p i j low below to has_i has_j none))
    (λ (above : j < i). absurd (shared_some hot n count p j i from above high has_j has_i none)))
    (cases_order i j)

filter_none : (test : Saved → Bool) (xs : List Saved) → ((s : Saved) → test s ≡ false) → filter test xs ≡ []
filter_none test [] none = refl
filter_none test (s ∷ ss) none = rw (none s) (filter_none test ss none)

pub shared_none : (hot : ℕ → List Saved) (n count : ℕ) → AreApart hot n count → shared_in hot n count ≡ None
shared_none hot n count apart =
    ap least
    (filter_none (λ s. nat_le 2 (length (holders_in hot n count s.page))) (records_in hot n count)
    (λ s. let few : length (holders_in hot n count s.page) ≤ 1 = pass_few (holds hot s.page) n count (apart s.page) in grind (arith, nat_tests)))

-- Each journal either stays or has no records any more: a page then has the same first record, or none.
pub find_thin : (hot other : ℕ → List Saved) (p n count : ℕ) → AreApart hot n count → ((i : ℕ) → (other i ≡ hot i) ⊎ (other i ≡ []))
    → (find (is_of p) (records_in other n count) ≡ None) ⊎ (find (is_of p) (records_in other n count) ≡ find (is_of p) (records_in hot n count))
find_thin hot other p n zero apart thin = inl refl
find_thin hot other p n (suc count) apart thin =
    let rest = find_thin hot other p (n + 1) count (λ q i j low high from to. apart q i j (omega arith) (omega arith) (omega arith) (omega arith)) thin in
    let all = find-append (is_of p) (other n) (records_in other (n + 1) count) in
    let before = find-append (is_of p) (hot n) (records_in hot (n + 1) count) in
    ⊎_elim
    (λ (has : holds hot p n ≡ true).
    ⊎_elim
    (λ (stays : other n ≡ hot n).
    inr (all ∙ rw stays (by_first (find (is_of p) (hot n)) (find_any p (hot n) ∙ has) (find (is_of p) (records_in other (n + 1) count)) (find (is_of p) (records_in hot (n + 1) count))) ∙ sym before))
    (λ (gone : other n ≡ []).
    let alone : find (is_of p) (records_in hot (n + 1) count) ≡ None =
    find_none hot p (n + 1) count
    (λ i low high. lacks_from (holds hot p i) (λ also. let same : n ≡ i = apart p n i (omega arith) (omega arith) (omega arith) (omega arith) has also in omega arith)) in
    inl (all ∙ rw gone (either (find (is_of p) (records_in other (n + 1) count)) (find (is_of p) (records_in hot (n + 1) count)) rest alone)))
    (thin n))
    (λ (lacks : holds hot p n ≡ false).
    let none : find (is_of p) (hot n) ≡ None = find_no p (hot n) lacks in
    let nothing : find (is_of p) (other n) ≡ None =
    ⊎_elim (λ (stays : other n ≡ hot n). rw stays none) (λ (gone : other n ≡ []). rw gone refl) (thin n) in
    let now : find (is_of p) (records_in other n (suc count)) ≡ find (is_of p) (records_in other (n + 1) count) = all ∙ rw nothing refl in
    let was : find (is_of p) (records_in hot n (suc count)) ≡ find (is_of p) (records_in hot (n + 1) count) = before ∙ rw none refl in
    ⊎_elim
    (λ (no_rest : find (is_of p) (records_in other (n + 1) count) ≡ None). inl (now ∙ no_rest))
    (λ (same : find (is_of p) (records_in other (n + 1) count) ≡ find (is_of p) (records_in hot (n + 1) count)). inr (now ∙ same ∙ sym was))
    rest)
    (cases_Bool (holds hot p n))
  where
    by_first : (first : Option Saved) → is_some first ≡ true → (a b : Option Saved) → option_or first a ≡ option_or first b
    by_first (Some s) e a b = refl
    by_first None e a b = absurd cc

    lacks_from : (b : Bool) → (b ≡ true → ⊥) → b ≡ false
    lacks_from true no_b = absurd (no_b refl)
    lacks_from false no_b = refl

    either : (a b : Option Saved) → (a ≡ None) ⊎ (a ≡ b) → b ≡ None → a ≡ None
    either a b e none = ⊎_elim (λ (x : a ≡ None). x) (λ (x : a ≡ b). x ∙ none) e

-- a page that no journal holds is held by none that is left
pub apart_thin : (hot other : ℕ → List Saved) (n count : ℕ) → AreApart hot n count → ((i : ℕ) → (other i ≡ hot i) ⊎ (other i ≡ [])) → AreApart other n count
apart_thin hot other n count apart thin p i j low high from to has_i has_j = apart p i j low high from to (still i has_i) (still j has_j)
  where
    still : (i : ℕ) → holds other p i ≡ true → holds hot p i ≡ true
    still i has = ⊎_elim
        (λ (stays : other i ≡ hot i). rw stays at has)
        (λ (gone : other i ≡ []). absurd (let none : false ≡ true = rw gone at has in cc))
        (thin i)
