-- The least page that two journals hold.
use Rattle.std.proofs.Common.{◌≡◌, ℕ, ◌<◌, ◌≤◌, List, [], ◌∷◌, length, min, refl, arith, ap, ◌∙◌, Bool, true, false, cond, Option, Some, None, ⊎_elim}
use Rattle.std.specs.Prelude.{◌==◌, nat_le, filter}
use Rattle.std.specs.List.{list_any}
use Rattle.std.specs.Option.{option_map_or}
use Rattle.std.proofs.lemmas.Bool.{cases_Bool, cases_lt}
use Rattle.std.proofs.lemmas.Bool.Decides.{nat_tests}
use Rattle.spe_model.specs.Journal.{Saved}
use Rattle.spe_model.specs.Recovery.{is_of, least}
use Rattle.spe_recover.specs.Seen.{Held}

abbrev AtLeast : ℕ → Option ℕ → Type 0
AtLeast p None = Unit {0}
AtLeast p (Some q) = p ≤ q

least_above : (test : Saved → Bool) (p : ℕ) (xs : List Saved) → ((s : Saved) → test s ≡ true → p ≤ s.page) → AtLeast p (least (filter test xs))
least_above test p [] above = tt
least_above test p (s ∷ ss) above = by_test (test s) (above s) (filter test ss) (least_above test p ss above)
  where
    both : (found : Option ℕ) → p ≤ s.page → AtLeast p found → p ≤ option_map_or (min s.page) found s.page
    both None here there = here
    both (Some q) here there = omega arith

    by_test : (b : Bool) → (b ≡ true → p ≤ s.page) → (rest : List Saved) → AtLeast p (least rest) → AtLeast p (least (cond b (s ∷ rest) rest))
    by_test true here rest there = both (least rest) (here refl) there
    by_test false here rest there = there

least_found : (test : Saved → Bool) (p : ℕ) (xs : List Saved) → ((s : Saved) → test s ≡ true → p ≤ s.page) → ((s : Saved) → s.page ≡ p → test s ≡ true)
    → list_any (is_of p) xs ≡ true → least (filter test xs) ≡ Some p
least_found test p [] above at has = absurd cc
least_found test p (s ∷ ss) above at has = ⊎_elim
    (λ (here : (s.page == p) ≡ true).
    let same : s.page ≡ p = grind (arith, nat_tests) in
    rw (at s same) (lowest (least (filter test ss)) same (least_above test p ss above)))
    (λ (elsewhere : (s.page == p) ≡ false).
    let more : list_any (is_of p) ss ≡ true = rw elsewhere at has in
    by_test (test s) (above s) (filter test ss) (least_found test p ss above at more))
    (cases_Bool (s.page == p))
  where
    lowest : (found : Option ℕ) → s.page ≡ p → AtLeast p found → Some (option_map_or (min s.page) found s.page) ≡ Some p
    lowest None same there = ap (λ (n : ℕ). Some n) same
    lowest (Some q) same there = let low : min s.page q ≡ p = omega arith in ap (λ (n : ℕ). Some n) low

    by_test : (b : Bool) → (b ≡ true → p ≤ s.page) → (rest : List Saved) → least rest ≡ Some p → least (cond b (s ∷ rest) rest) ≡ Some p
    by_test true here rest there =
        let low : min s.page p ≡ p = omega (arith, here refl) in
        ap (λ (found : Option ℕ). Some (option_map_or (min s.page) found s.page)) there ∙ ap (λ (n : ℕ). Some n) low
    by_test false here rest there = there

filter_none : (test : Saved → Bool) (xs : List Saved) → ((s : Saved) → test s ≡ false) → filter test xs ≡ []
filter_none test [] none = refl
filter_none test (s ∷ ss) none = rw (none s) (filter_none test ss none)

abbrev pub is_held_twice : Held → Saved → Bool
is_held_twice held s = nat_le 2 (length (held s.page))

pub shared_none : (held : Held) (xs : List Saved) → ((p : ℕ) → length (held p) ≤ 1) → least (filter (is_held_twice held) xs) ≡ None
shared_none held xs few = ap least (filter_none (is_held_twice held) xs (λ s. let one : length (held s.page) ≤ 1 = few s.page in grind (arith, nat_tests)))

pub shared_some : (held : Held) (xs : List Saved) (p : ℕ) → 2 ≤ length (held p) → ((q : ℕ) → q < p → length (held q) ≤ 1)
    → list_any (is_of p) xs ≡ true → least (filter (is_held_twice held) xs) ≡ Some p
shared_some held xs p two below has =
    least_found (is_held_twice held) p xs
    (λ s twice. ⊎_elim
    (λ (low : s.page < p). let one : length (held s.page) ≤ 1 = below s.page low in let two_of : 2 ≤ length (held s.page) = grind (arith, nat_tests) in absurd (omega arith))
    (λ (high : p ≤ s.page). high)
    (cases_lt s.page p))
    (λ s same. rw same (let yes_two : nat_le 2 (length (held p)) ≡ true = grind (arith, nat_tests) in yes_two))
    has
