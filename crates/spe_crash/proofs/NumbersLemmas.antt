-- What is so of each of some numbers in a row.
use Rattle.std.proofs.Common.{◌≡◌, ◌≢◌, ℕ, zero, suc, ◌+◌, ◌<◌, ◌≤◌, List, length, map, refl, arith, ap, ◌∙◌, Bool, true, ⊎_elim}
use Rattle.std.specs.List.{list_all}
use Rattle.std.proofs.lemmas.Bool.{cases_eq, and_parts}
use Rattle.std.proofs.lemmas.List.{length-map}
use Rattle.spe_model.specs.Journal.{numbers_from}
use Rattle.spe_model.specs.Recovery.{pages_to}

numbers-length : (n count : ℕ) → length (numbers_from n count) ≡ count
numbers-length n zero = refl
numbers-length n (suc count) = ap suc (numbers-length (n + 1) count)

pub pages_to-length : (f : ℕ → List ℕ) (count : ℕ) → length (map f (pages_to count)) ≡ count
pages_to-length f count = length-map (pages_to count) f ∙ numbers-length 1 count

map_same : (f g : ℕ → List ℕ) (n count : ℕ) → ((p : ℕ) → n ≤ p → p < n + count → f p ≡ g p) → map f (numbers_from n count) ≡ map g (numbers_from n count)
map_same f g n zero same = refl
map_same f g n (suc count) same = rw (same n (omega arith) (omega arith), map_same f g (n + 1) count (λ p low high. same p (omega arith) (omega arith))) refl

pub pages_same : (f g : ℕ → List ℕ) (count : ℕ) → ((p : ℕ) → 1 ≤ p → p ≤ count → f p ≡ g p) → map f (pages_to count) ≡ map g (pages_to count)
pages_same f g count same = map_same f g 1 count (λ p low high. same p low (omega arith))

all_pass : (test : ℕ → Bool) (n count : ℕ) → ((p : ℕ) → n ≤ p → p < n + count → test p ≡ true) → list_all test (numbers_from n count) ≡ true
all_pass test n zero pass = refl
all_pass test n (suc count) pass = rw (pass n (omega arith) (omega arith)) (all_pass test (n + 1) count (λ p low high. pass p (omega arith) (omega arith)))

pub pages_pass : (test : ℕ → Bool) (count : ℕ) → ((p : ℕ) → 1 ≤ p → p ≤ count → test p ≡ true) → list_all test (pages_to count) ≡ true
pages_pass test count pass = all_pass test 1 count (λ p low high. pass p low (omega arith))

one_passes : (test : ℕ → Bool) (n count p : ℕ) → list_all test (numbers_from n count) ≡ true → n ≤ p → p < n + count → test p ≡ true
one_passes test n zero p all low high = absurd (omega arith)
one_passes test n (suc count) p all low high =
    let parts = and_parts (test n) (list_all test (numbers_from (n + 1) count)) all in
    ⊎_elim
    (λ (here : p ≡ n). rw here parts.0)
    (λ (other : p ≢ n). one_passes test (n + 1) count p parts.1 (omega arith) (omega arith))
    (cases_eq p n)

pub page_passes : (test : ℕ → Bool) (count p : ℕ) → list_all test (pages_to count) ≡ true → 1 ≤ p → p ≤ count → test p ≡ true
page_passes test count p all low high = one_passes test 1 count p all low (omega arith)
