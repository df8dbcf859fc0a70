-- Free lists as trunks with their leaves: what is taken and given, counted.
use Rattle.std.proofs.Common.{◌≡◌, ℕ, zero, suc, ◌+◌, ◌-◌, ◌/◌, ◌<◌, ◌≤◌, ◌∙◌, List, [], ◌∷◌, ◌++◌, length, refl, sym, ap, subst, inl, inr, arith, Some}
use Rattle.std.specs.Prelude.{◌==◌, nat_lt}
use Rattle.std.proofs.lemmas.Bool.{cases_Bool}
use Rattle.spe_model.specs.Big.{u32_at}
use Rattle.spe_model.specs.FreeList.{AreTrunks, leaves_of, next_trunk, trunk_pages}
use Rattle.spe_model.specs.Paging.{Paging}
use Rattle.spe_frame.specs.Times.{one_if, times}
use Rattle.spe_frame.proofs.TimesLemmas.{here, times-append}
use Rattle.spe_freelist.specs.Lists.{Trunk, before_last, freed, last_of, left_of, next_of, pages_of, trunks_from}
use Rattle.spe_freelist.specs.Trunk.{full_leaves}

pub pages_are : (pages : Paging) (count first : ℕ) → trunk_pages pages count first ≡ pages_of (trunks_from pages count first)
pages_are pages zero first = refl
pages_are pages (suc count) first = ap (λ (ns : List ℕ). first ∷ leaves_of pages first ++ ns) (pages_are pages count (next_trunk pages first))

-- a list ends with its last number
pub ends_so : (n : ℕ) (ns : List ℕ) → n ∷ ns ≡ before_last n ns ++ last_of n ns ∷ []
ends_so n [] = refl
ends_so n (m ∷ ms) = ap (λ (xs : List ℕ). n ∷ xs) (ends_so m ms)

times_one : (k n : ℕ) → times k (n ∷ []) ≡ one_if (k == n)
times_one k n = omega arith

times_ends : (k n : ℕ) (ns : List ℕ) → times k (n ∷ ns) ≡ times k (before_last n ns) + one_if (k == last_of n ns)
times_ends k n ns = ap (times k) (ends_so n ns) ∙ times-append k (before_last n ns) (last_of n ns ∷ []) ∙ ap (λ (m : ℕ). times k (before_last n ns) + m) (times_one k (last_of n ns))

pub times_trunk : (k : ℕ) (t : Trunk) (ts : List Trunk) → times k (pages_of (t ∷ ts)) ≡ one_if (k == t.page) + (times k t.leaves + times k (pages_of ts))
times_trunk k t ts = ap (λ (m : ℕ). one_if (k == t.page) + m) (times-append k t.leaves (pages_of ts))

-- the page that is taken is gone, and no other
pub times_left : (k number first page : ℕ) (leaves : List ℕ) (others : List Trunk) → next_of leaves others ≡ Some page
    → times k (pages_of (left_of number first leaves others)) + one_if (k == page) ≡ one_if (k == first) + (times k leaves + times k (pages_of others))
times_left k number first page [] [] next = absurd cc
times_left k number first page [] (t ∷ ts) next =
    let same : t.page ≡ page = cc in
    let here = times_trunk k (record { page = first; leaves = t.leaves }) ts in
    let was = times_trunk k t ts in
    subst (λ (p : ℕ). times k (pages_of (record { page = first; leaves = t.leaves } ∷ ts)) + one_if (k == p) ≡ one_if (k == first) + (0 + times k (pages_of (t ∷ ts)))) same
    (omega (arith, here, was))
times_left k number first page (n ∷ ns) ts next =
    let same : last_of n ns ≡ page = cc in
    let here = times_trunk k (record { page = first; leaves = before_last n ns }) ts in
    let was = times_ends k n ns in
    subst (λ (p : ℕ). times k (pages_of (record { page = first; leaves = before_last n ns } ∷ ts)) + one_if (k == p) ≡ one_if (k == first) + (times k (n ∷ ns) + times k (pages_of ts))) same
    (omega (arith, here, was))

-- the page that is given is there, and each other as before
pub times_freed : (k usable page : ℕ) (t : Trunk) (ts : List Trunk)
    → times k (pages_of (freed usable page (t ∷ ts))) ≡ one_if (k == page) + (one_if (k == t.page) + (times k t.leaves + times k (pages_of ts)))
times_freed k usable page t ts = elim (cases_Bool (nat_lt (length t.leaves) (full_leaves usable))) [
  | inl few ↦ (let here = times_trunk k (record { page = t.page; leaves = t.leaves ++ page ∷ [] }) ts in
      let more = times-append k t.leaves (page ∷ []) in
      let one = times_one k page in
      rw few (omega (arith, here, more, one)))
  | inr many ↦ (let first = times_trunk k (record { page = t.page; leaves = [] }) (record { page = page; leaves = t.leaves } ∷ ts) in
      let second = times_trunk k (record { page = page; leaves = t.leaves }) ts in
      rw many (omega (arith, first, second)))
]

-- trunks that stay
pub trunks_stay : (usable : ℕ) (old new : Paging) (count first : ℕ) → ((n : ℕ) → 0 < times n (trunk_pages old count first) → new n ≡ old n)
    → (trunks_from new count first ≡ trunks_from old count first) × (AreTrunks usable old count first → AreTrunks usable new count first)
trunks_stay usable old new zero first stays = (refl, λ are. are)
trunks_stay usable old new (suc count) first stays =
    let one : new first ≡ old first = stays first (let at = here first first (leaves_of old first ++ trunk_pages old count (next_trunk old first)) refl in omega arith) in
    let next : next_trunk new first ≡ next_trunk old first = ap (λ (xs : List ℕ). u32_at xs 0) one in
    let rest = trunks_stay usable old new count (next_trunk old first) (λ n some. stays n
    (let split = times-append n (leaves_of old first) (trunk_pages old count (next_trunk old first)) in omega (arith, some))) in (
      rw (one, rest.0) refl,
      λ are. (are.0, subst (λ (xs : List ℕ). u32_at xs 4 ≤ usable / 4 - 2) (sym one) are.1, subst (λ (n : ℕ). AreTrunks usable new count n) (sym next) (rest.1 are.2)),
    )

before_more : (n : ℕ) (ns : List ℕ) (m : ℕ) → before_last n (ns ++ m ∷ []) ≡ n ∷ ns
before_more n [] m = refl
before_more n (k ∷ ks) m = ap (λ (xs : List ℕ). n ∷ xs) (before_more k ks m)

last_more : (n : ℕ) (ns : List ℕ) (m : ℕ) → last_of n (ns ++ m ∷ []) ≡ m
last_more n [] m = refl
last_more n (k ∷ ks) m = last_more k ks m

-- the last of some leaves is taken
pub left_more : (number first m : ℕ) (ns : List ℕ) (ts : List Trunk) → left_of number first (ns ++ m ∷ []) ts ≡ record { page = first; leaves = ns } ∷ ts
left_more number first m [] ts = refl
left_more number first m (n ∷ ns) ts = ap (λ (xs : List ℕ). record { page = first; leaves = xs } ∷ ts) (before_more n ns m)

pub next_more : (m : ℕ) (ns : List ℕ) (ts : List Trunk) → next_of (ns ++ m ∷ []) ts ≡ Some m
next_more m [] ts = refl
next_more m (n ∷ ns) ts = ap (λ (k : ℕ). Some k) (last_more n ns m)
