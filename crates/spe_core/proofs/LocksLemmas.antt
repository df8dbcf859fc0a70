-- Locks as the keys of a set, as one is put in or taken out.
use Rattle.std.proofs.Common.{◌≡◌, ℕ, ◌<◌, List, [], ◌∷◌, ap, sym, ◌∙◌, refl, Bool, true, false, arith, cond, Less, ⊎_elim, inl, inr}
use Rattle.std.specs.Prelude.{◌⊎◌, ◌==◌, ◌||◌, not, nat_lt, filter}
use Rattle.std.specs.List.{AllByRecursion, list_any}
use Rattle.std.specs.List.Sorted.{IsStrictlySortedBy}
use Rattle.std.specs.Ordering.{nat_cmp}
use Rattle.std.specs.BTreeMap.{is_at}
use Rattle.std.specs.Set.{remove_key}
use Rattle.std.proofs.lemmas.Bool.{cases_Bool, cases_order, eqb-true, or_cases, or_right}
use Rattle.std.proofs.lemmas.Bool.Decides.{nat_tests}
use Rattle.spe_core.specs.Locks.{Locks, has_lock, with_lock, without_lock}

at_is : (lock k : ℕ) → is_at (nat_cmp lock) k ≡ (k == lock)
at_is lock k = grind (arith, nat_tests)

-- a look-up finds the lock
pub look_up_is : (lock : ℕ) (ks : Locks) → list_any (is_at (nat_cmp lock)) ks ≡ has_lock lock ks
look_up_is lock [] = refl
look_up_is lock (k ∷ ks) = rw (at_is lock k, look_up_is lock ks) refl

-- no later lock is the first
later_kept : (lock : ℕ) (ks : Locks) → AllByRecursion (λ (y : ℕ). nat_cmp lock y ≡ Less) ks → without_lock lock ks ≡ ks
later_kept lock [] above = refl
later_kept lock (k ∷ ks) above =
    let other : (k == lock) ≡ false = grind (arith, nat_tests, above.0) in
    rw other (ap (λ (l : Locks). k ∷ l) (later_kept lock ks above.1))

removed_by : (lock k : ℕ) (ks : Locks) (b : Bool) → (k == lock) ≡ b → AllByRecursion (λ (y : ℕ). nat_cmp k y ≡ Less) ks → remove_key (is_at (nat_cmp lock)) ks ≡ without_lock lock ks
    → cond b ks (k ∷ remove_key (is_at (nat_cmp lock)) ks) ≡ cond (not b) (k ∷ without_lock lock ks) (without_lock lock ks)
removed_by lock k ks true same above rest =
    let at : k ≡ lock = grind (arith, nat_tests) in
    sym (later_kept lock ks (rw at at above))
removed_by lock k ks false other above rest = ap (λ (l : Locks). k ∷ l) rest

-- what a removal leaves
pub removed_is : (lock : ℕ) (ks : Locks) → IsStrictlySortedBy nat_cmp ks → remove_key (is_at (nat_cmp lock)) ks ≡ without_lock lock ks
unfolding IsStrictlySortedBy
removed_is lock [] sorted = refl
removed_is lock (k ∷ ks) sorted = rw (at_is lock k) (removed_by lock k ks (k == lock) refl sorted.0 (removed_is lock ks sorted.1))

twice : (a c : Bool) → (a || c) ≡ (a || (a || c))
twice true c = refl
twice false c = refl

-- a lock that is put in is there, and the others are as before
pub with_has : (k lock : ℕ) (ks : Locks) → has_lock k (with_lock lock ks) ≡ ((lock == k) || has_lock k ks)
with_has k lock [] = refl
with_has k lock (x ∷ xs) = ⊎_elim
    (λ (same : lock ≡ x).
    let less : nat_lt lock x ≡ false = grind (arith, nat_tests) in
    let here : (lock == x) ≡ true = grind (arith, nat_tests) in
    let own : (lock == k) ≡ (x == k) = ap (λ (n : ℕ). n == k) same in
    rw (less, here) (rw own (twice (x == k) (has_lock k xs))))
    (⊎_elim
    (λ (below : lock < x).
    let less : nat_lt lock x ≡ true = grind (arith, nat_tests) in
    rw less refl)
    (λ (above : x < lock).
    let less : nat_lt lock x ≡ false = grind (arith, nat_tests) in
    let here : (lock == x) ≡ false = grind (arith, nat_tests) in
    rw (less, here) (ap (λ (b : Bool). (x == k) || b) (with_has k lock xs) ∙ by_tests (x == k) (lock == k) (has_lock k xs))))
    (cases_order lock x)
  where
    by_tests : (a b c : Bool) → (a || (b || c)) ≡ (b || (a || c))
    by_tests true true c = refl
    by_tests true false c = refl
    by_tests false b c = refl

pub with_one : (k lock : ℕ) (ks : Locks) → has_lock k (with_lock lock ks) ≡ true → (lock ≡ k) ⊎ (has_lock k ks ≡ true)
with_one k lock ks has = ⊎_elim
    (λ (own : (lock == k) ≡ true). inl (eqb-true lock k own))
    (λ (old : has_lock k ks ≡ true). inr old)
    (or_cases (lock == k) (has_lock k ks) (sym (with_has k lock ks) ∙ has))

-- a lock that was there stays
pub with_old : (k lock : ℕ) (ks : Locks) → has_lock k ks ≡ true → has_lock k (with_lock lock ks) ≡ true
with_old k lock ks has = with_has k lock ks ∙ or_right (lock == k) (has_lock k ks) has

or_more : (a b c : Bool) → (b ≡ true → c ≡ true) → (a || b) ≡ true → (a || c) ≡ true
or_more true b c more some = refl
or_more false b c more some = more some

-- a lock that is left was there
pub without_one : (k lock : ℕ) (ks : Locks) → has_lock k (without_lock lock ks) ≡ true → has_lock k ks ≡ true
without_one k lock [] has = has
without_one k lock (x ∷ xs) has = ⊎_elim
    (λ (gone : (x == lock) ≡ true). or_right (x == k) (has_lock k xs) (without_one k lock xs (rw gone at has)))
    (λ (stays : (x == lock) ≡ false). or_more (x == k) (has_lock k (without_lock lock xs)) (has_lock k xs) (without_one k lock xs) (rw stays at has))
    (cases_Bool (x == lock))
