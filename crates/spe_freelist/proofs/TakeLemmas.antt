-- What is left of the lists when a page is taken, and what they are when one is given.
use Rattle.std.proofs.Common.{◌≡◌, ◌≢◌, ℕ, zero, suc, ◌+◌, ◌-◌, ◌*◌, ◌/◌, ◌<◌, ◌≤◌, ◌∙◌, List, [], ◌∷◌, ◌++◌, length, map, refl, sym, ap, subst, inl, inr, ⊎_elim, arith, true, false, Option, Some, None, length-append}
use Rattle.std.specs.Prelude.{◌==◌, nat_lt, unwrap_or}
use Rattle.std.proofs.lemmas.Bool.{cases_lt, le-ltb, lt-ltb}
use Rattle.spe_model.specs.Big.{u32_at}
use Rattle.spe_model.specs.FreeList.{AreTrunks, leaf_count, leaves_of, next_trunk, trunk_pages}
use Rattle.spe_model.specs.Journal.{numbers_from}
use Rattle.spe_model.specs.Paging.{Paging}
use Rattle.spe_model.specs.Standing.{FreeChain, chain_of_free}
use Rattle.spe_space.specs.Free.{IsLaterPage}
use Rattle.spe_space.specs.Front.{number_in}
use Rattle.spe_frame.specs.Times.{one_if, times}
use Rattle.spe_frame.proofs.TimesLemmas.{here, holds_from_all, same_or_not, single_from_distinct, there, times-append}
use Rattle.spe_freelist.specs.Lists.{Trunk, freed, left_of, list_of, next_free, next_of, pages_of, taken, trunks_from}
use Rattle.spe_freelist.specs.Place.{AreLists}
use Rattle.spe_freelist.specs.Trunk.{fifteen, full_leaves, leaves_at, most_leaves}
use Rattle.spe_freelist.proofs.CaseLemmas.{Left, Shown, counts_own, gains, loses, rest_stays, whole_of}
use Rattle.spe_freelist.proofs.ListLemmas.{left_more, next_more, pages_are, times_freed, times_left, times_trunk, trunks_stay}
use Rattle.spe_freelist.proofs.RelistLemmas.{Beside, own_within, relisted}
use Rattle.spe_freelist.proofs.TrunkLemmas.{length-leaves, map_more}

-- a page is taken from a list
pub record IsTaken (usable number : ℕ) (old new : Paging) (before : List FreeChain) (own : FreeChain) (after : List FreeChain) (listed : List ℕ) (page : ℕ) : Type 0 where
  pub left : Left usable old new before own after listed (taken number (list_of old own))
  pub page_is : page ≡ unwrap_or (next_free (list_of old own)) (number + 1)
  pub gone : times page left.again.listed' ≡ 0

pub takes_leaf : (usable number : ℕ) (old new : Paging) (before : List FreeChain) (own : FreeChain) (after : List FreeChain) (listed : List ℕ) (page : ℕ)
    → AreLists usable old (before ++ own ∷ after) listed → Beside old new own.first listed
    → 0 < leaf_count old own.first → page ≡ u32_at (old own.first) (4 + 4 * leaf_count old own.first)
    → Shown new own.first (next_trunk old own.first) (leaves_at (old own.first) (leaf_count old own.first - 1))
    → IsTaken usable number old new before own after listed page
takes_leaf usable number old new before own after listed page = go own.trunks own.first
  where
    go : (trunks first : ℕ) → AreLists usable old (before ++ record { trunks = trunks; first = first } ∷ after) listed → Beside old new first listed
        → 0 < leaf_count old first → page ≡ u32_at (old first) (4 + 4 * leaf_count old first)
        → Shown new first (next_trunk old first) (leaves_at (old first) (leaf_count old first - 1))
        → IsTaken usable number old new before (record { trunks = trunks; first = first }) after listed page
    go zero first lists beside some page_is shown =
        let whole = whole_of usable old before (record { trunks = zero; first = first }) after listed lists in absurd (whole.1 whole.0)
    go (suc k) first lists beside some page_is shown =
        let own : FreeChain = record { trunks = suc k; first = first } in
        let m = leaf_count old first - 1 in
        let rest = trunks_from old k (next_trunk old first) in
        let one : leaf_count old first ≡ m + 1 = omega (arith, some) in
        let at : 8 + 4 * m ≡ 4 + 4 * leaf_count old first = omega (arith, some) in
        let leaves_are : leaves_of old first ≡ leaves_at (old first) m ++ page ∷ [] =
        ap (leaves_at (old first)) one ∙ map_more (λ (i : ℕ). u32_at (old first) (8 + 4 * i)) m
        ∙ ap (λ (n : ℕ). leaves_at (old first) m ++ n ∷ []) (ap (u32_at (old first)) at ∙ sym page_is) in
        let taken_is : left_of number first (leaves_of old first) rest ≡ record { page = first; leaves = leaves_at (old first) m } ∷ rest =
        ap (λ (ls : List ℕ). left_of number first ls rest) leaves_are ∙ left_more number first page (leaves_at (old first) m) rest in
        let next_is : next_of (leaves_of old first) rest ≡ Some page = ap (λ (ls : List ℕ). next_of ls rest) leaves_are ∙ next_more page (leaves_at (old first) m) rest in
        let stay = trunks_stay usable old new k (next_trunk old first) (rest_stays usable old new before k first after listed lists beside.stays) in
        let whole : AreTrunks usable old (suc k) first = (whole_of usable old before own after listed lists).0 in
        let own_is : list_of new own ≡ record { page = first; leaves = leaves_at (old first) m } ∷ rest =
        ap (λ (ls : List ℕ). record { page = first; leaves = ls } ∷ trunks_from new k (next_trunk new first)) shown.leaves_are
        ∙ ap (λ (ts : List Trunk). record { page = first; leaves = leaves_at (old first) m } ∷ ts) (ap (trunks_from new k) shown.next_is ∙ stay.0) in
        let room : leaf_count new first ≤ usable / 4 - 2 = omega (arith, shown.count_is, length-leaves (old first) m, whole.1) in
        let left = loses usable old new before own own after listed (taken number (list_of old own)) page lists beside refl
        (whole.0, room, subst (λ (n : ℕ). AreTrunks usable new k n) (sym shown.next_is) (stay.1 whole.2)) (own_is ∙ sym taken_is)
        (λ n. times_left n number first page (leaves_of old first) rest next_is ∙ sym (counts_own old k first n)) in
        record { left = left.0; page_is = sym (ap (λ (o : Option ℕ). unwrap_or o (number + 1)) next_is); gone = left.1 }

pub takes_trunk : (usable number : ℕ) (old new : Paging) (before : List FreeChain) (own : FreeChain) (after : List FreeChain) (listed : List ℕ)
    → AreLists usable old (before ++ own ∷ after) listed → Beside old new own.first listed
    → leaf_count old own.first ≡ 0 → 0 < next_trunk old own.first
    → Shown new own.first (next_trunk old (next_trunk old own.first)) (leaves_of old (next_trunk old own.first))
    → IsTaken usable number old new before own after listed (next_trunk old own.first)
takes_trunk usable number old new before own after listed = go own.trunks own.first
  where
    go : (trunks first : ℕ) → AreLists usable old (before ++ record { trunks = trunks; first = first } ∷ after) listed → Beside old new first listed
        → leaf_count old first ≡ 0 → 0 < next_trunk old first
        → Shown new first (next_trunk old (next_trunk old first)) (leaves_of old (next_trunk old first))
        → IsTaken usable number old new before (record { trunks = trunks; first = first }) after listed (next_trunk old first)
    go zero first lists beside none some shown =
        let whole = whole_of usable old before (record { trunks = zero; first = first }) after listed lists in absurd (whole.1 whole.0)
    go (suc zero) first lists beside none some shown =
        let whole : AreTrunks usable old (suc zero) first = (whole_of usable old before (record { trunks = suc zero; first = first }) after listed lists).0 in
        absurd (omega (arith, whole.2, some))
    go (suc (suc j)) first lists beside none some shown =
        let own : FreeChain = record { trunks = suc (suc j); first = first } in
        let own' : FreeChain = record { trunks = suc j; first = first } in
        let t = next_trunk old first in
        let rest = trunks_from old j (next_trunk old t) in
        let tail = trunks_from old (suc j) t in
        let leaves_are : leaves_of old first ≡ [] = ap (leaves_at (old first)) none in
        let taken_is : left_of number first (leaves_of old first) tail ≡ record { page = first; leaves = leaves_of old t } ∷ rest = ap (λ (ls : List ℕ). left_of number first ls tail) leaves_are in
        let next_is : next_of (leaves_of old first) tail ≡ Some t = ap (λ (ls : List ℕ). next_of ls tail) leaves_are in
        let keeps = rest_stays usable old new before (suc j) first after listed lists beside.stays in
        let stay = trunks_stay usable old new j (next_trunk old t) (λ n has. keeps n
        (let front : times n (trunk_pages old (suc j) t) ≡ one_if (n == t) + times n (leaves_of old t ++ trunk_pages old j (next_trunk old t)) = refl in
        let split = times-append n (leaves_of old t) (trunk_pages old j (next_trunk old t)) in omega (arith, has, front, split))) in
        let whole : AreTrunks usable old (suc (suc j)) first = (whole_of usable old before own after listed lists).0 in
        let behind : AreTrunks usable old (suc j) t = whole.2 in
        let own_is : list_of new own' ≡ record { page = first; leaves = leaves_of old t } ∷ rest =
        ap (λ (ls : List ℕ). record { page = first; leaves = ls } ∷ trunks_from new j (next_trunk new first)) shown.leaves_are
        ∙ ap (λ (ts : List Trunk). record { page = first; leaves = leaves_of old t } ∷ ts) (ap (trunks_from new j) shown.next_is ∙ stay.0) in
        let room : leaf_count new first ≤ usable / 4 - 2 = omega (arith, shown.count_is, length-leaves (old t) (leaf_count old t), behind.1) in
        let left = loses usable old new before own own' after listed (taken number (list_of old own)) t lists beside refl
        (whole.0, room, subst (λ (n : ℕ). AreTrunks usable new j n) (sym shown.next_is) (stay.1 behind.2)) (own_is ∙ sym taken_is)
        (λ n. times_left n number first t (leaves_of old first) tail next_is ∙ sym (counts_own old (suc j) first n)) in
        record { left = left.0; page_is = sym (ap (λ (o : Option ℕ). unwrap_or o (number + 1)) next_is); gone = left.1 }

-- fifteen pages, counted
down : (p n a c : ℕ) → a + c ≤ 15
    → (times n (map (λ (i : ℕ). p + 15 - i) (numbers_from a c)) ≤ 1)
    × (0 < times n (map (λ (i : ℕ). p + 15 - i) (numbers_from a c)) → (p + 15 < n + (a + c)) × (n + a ≤ p + 15))
down p n a zero few = (omega arith, λ some. absurd (omega (arith, some)))
down p n a (suc c) few =
    let rest = down p n (a + 1) c (omega (arith, few)) in
    let tail = map (λ (i : ℕ). p + 15 - i) (numbers_from (a + 1) c) in
    ⊎_elim
    (λ (e : n ≡ p + 15 - a).
    let at = here n (p + 15 - a) tail e in
    elim (cases_lt 0 (times n tail)) [
      | inl some ↦ absurd (omega (arith, e, few, (rest.1 some).1))
      | inr none ↦ (omega (arith, at, none), λ some. (omega (arith, e, few), omega (arith, e, few)))
    ])
    (λ (e : n ≢ p + 15 - a).
    let at = there n (p + 15 - a) tail e in
    (omega (arith, at, rest.0), λ some. (let is = rest.1 (omega (arith, at, some)) in (omega (arith, is.0), omega (arith, is.1)))))
    (same_or_not n (p + 15 - a))

pub fifteen_once : (p n : ℕ) → (times n (fifteen p) ≤ 1) × (0 < times n (fifteen p) → (p < n) × (n ≤ p + 15))
fifteen_once p n =
    let is = down p n 0 15 (omega arith) in
    (is.0, λ some. (let at = is.1 some in (omega (arith, at.0), omega (arith, at.1))))

down_has : (p n a c : ℕ) → a + c ≤ 15 → n + a ≤ p + 15 → p + 15 < n + (a + c) → 0 < times n (map (λ (i : ℕ). p + 15 - i) (numbers_from a c))
down_has p n a zero few low high = absurd (omega (arith, low, high))
down_has p n a (suc c) few low high =
    let tail = map (λ (i : ℕ). p + 15 - i) (numbers_from (a + 1) c) in
    ⊎_elim
    (λ (e : n ≡ p + 15 - a). let at = here n (p + 15 - a) tail e in omega (arith, at))
    (λ (e : n ≢ p + 15 - a).
    let at = there n (p + 15 - a) tail e in
    let under : n + a ≢ p + 15 = λ (same : n + a ≡ p + 15). e (omega (arith, same)) in
    let rest = down_has p n (a + 1) c (omega (arith, few)) (omega (arith, low, under)) (omega (arith, high)) in
    omega (arith, at, rest))
    (same_or_not n (p + 15 - a))

-- each of the fifteen pages behind one is among them
pub fifteen_has : (p n : ℕ) → p < n → n ≤ p + 15 → 0 < times n (fifteen p)
fifteen_has p n low high = down_has p n 0 15 (omega arith) (omega (arith, high)) (omega (arith, low))

-- sixteen pages are added, and the first is taken
pub takes_new : (usable number : ℕ) (old new : Paging) (before : List FreeChain) (own : FreeChain) (after : List FreeChain) (listed : List ℕ)
    → AreLists usable old (before ++ own ∷ after) listed → Beside old new own.first listed → number ≡ number_in old → number_in new ≡ number + 16 → 480 ≤ usable
    → leaf_count old own.first ≡ 0 → next_trunk old own.first ≡ 0 → Shown new own.first 0 (fifteen (number + 1))
    → IsTaken usable number old new before own after listed (number + 1)
takes_new usable number old new before own after listed = go own.trunks own.first
  where
    go : (trunks first : ℕ) → AreLists usable old (before ++ record { trunks = trunks; first = first } ∷ after) listed → Beside old new first listed
        → number ≡ number_in old → number_in new ≡ number + 16 → 480 ≤ usable
        → leaf_count old first ≡ 0 → next_trunk old first ≡ 0 → Shown new first 0 (fifteen (number + 1))
        → IsTaken usable number old new before (record { trunks = trunks; first = first }) after listed (number + 1)
    go zero first lists beside number_is grown least none last shown =
        let whole = whole_of usable old before (record { trunks = zero; first = first }) after listed lists in absurd (whole.1 whole.0)
    go (suc (suc j)) first lists beside number_is grown least none last shown =
        let whole : AreTrunks usable old (suc (suc j)) first = (whole_of usable old before (record { trunks = suc (suc j); first = first }) after listed lists).0 in
        let behind : AreTrunks usable old (suc j) (next_trunk old first) = whole.2 in
        absurd (omega (arith, behind.0, last))
    go (suc zero) first lists beside number_is grown least none last shown =
        let own : FreeChain = record { trunks = suc zero; first = first } in
        let fresh : Trunk = record { page = first; leaves = fifteen (number + 1) } in
        let trunks : List Trunk = fresh ∷ [] in
        let within = own_within usable old before own after listed lists in
        let placed = holds_from_all (IsLaterPage (number_in old)) listed lists.within in
        let mine : 0 < times first (chain_of_free old own) = (let at = here first first (leaves_of old first ++ []) refl in omega (arith, at)) in
        let first_placed = placed first (omega (arith, mine, within first)) in
        let leaves_are : leaves_of old first ≡ [] = ap (leaves_at (old first)) none in
        let taken_is : left_of number first (leaves_of old first) [] ≡ trunks = ap (λ (ls : List ℕ). left_of number first ls []) leaves_are in
        let next_is : next_of (leaves_of old first) [] ≡ None = ap (λ (ls : List ℕ). next_of ls []) leaves_are in
        let whole : AreTrunks usable old (suc zero) first = (whole_of usable old before own after listed lists).0 in
        let own_is : list_of new own ≡ trunks = ap (λ (ls : List ℕ). record { page = first; leaves = ls } ∷ []) shown.leaves_are in
        let room : leaf_count new first ≤ usable / 4 - 2 = (let all : length (fifteen (number + 1)) ≡ 15 = refl in omega (arith, shown.count_is, all, least)) in
        let counts : (n : ℕ) → times n (pages_of trunks) ≡ one_if (n == first) + times n (fifteen (number + 1)) = λ n. (let is = times_trunk n fresh [] in omega (arith, is)) in
        let single : (n : ℕ) → times n (pages_of trunks) ≤ 1 = λ n. (let once = fifteen_once (number + 1) n in ⊎_elim
        (λ (e : n ≡ first). let at = here n first [] e in elim (cases_lt 0 (times n (fifteen (number + 1)))) [
          | inl some ↦ absurd (omega (arith, (once.1 some).0, e, first_placed.1, number_is))
          | inr nothing ↦ omega (arith, counts n, at, nothing)
        ])
        (λ (e : n ≢ first). let at = there n first [] e in omega (arith, counts n, at, once.0))
        (same_or_not n first)) in
        let beyond : (n : ℕ) → number < n → times n listed ≡ 0 = λ n above. elim (cases_lt 0 (times n listed)) [
          | inl some ↦ absurd (omega (arith, (placed n some).1, above, number_is))
          | inr nothing ↦ omega (arith, nothing)
        ] in
        let again = relisted usable old new before own own after listed (taken number (list_of old own)) lists beside (record {
          first_is = refl;
          whole = (whole.0, room, shown.next_is);
          trunks_are = own_is ∙ sym taken_is;
          single = λ n. subst (λ (ts : List Trunk). times n (pages_of ts) ≤ 1) (sym taken_is) (single n);
          found = λ n some. (let has = subst (λ (ts : List Trunk). 0 < times n (pages_of ts)) taken_is some in
              let once = fifteen_once (number + 1) n in ⊎_elim
              (λ (e : n ≡ first). inl (subst (λ (m : ℕ). 0 < times m (chain_of_free old own)) (sym e) mine))
              (λ (e : n ≢ first). let at = there n first [] e in let is = once.1 (omega (arith, has, counts n, at)) in
              inr (beyond n (omega (arith, is.0)), (omega (arith, is.0, first_placed.0), omega (arith, is.1, grown))))
              (same_or_not n first));
        }) in
        let not_first : number + 1 ≢ first = λ (e : number + 1 ≡ first). absurd (omega (arith, e, first_placed.1, number_is)) in
        let gone : times (number + 1) (pages_of trunks) ≡ 0 = (let at = there (number + 1) first [] not_first in
        elim (cases_lt 0 (times (number + 1) (fifteen (number + 1)))) [
          | inl some ↦ absurd (omega (arith, ((fifteen_once (number + 1) (number + 1)).1 some).0))
          | inr nothing ↦ omega (arith, counts (number + 1), at, nothing)
        ]) in
        record {
          left = record { own' = own; first_is = refl; own_is = own_is ∙ sym taken_is; again = again };
          page_is = sym (ap (λ (o : Option ℕ). unwrap_or o (number + 1)) next_is);
          gone = again.lacks (number + 1) (subst (λ (ts : List Trunk). times (number + 1) (pages_of ts) ≡ 0) (sym taken_is) gone) (inr (beyond (number + 1) (omega arith)));
        }

-- a page is given as a leaf
pub gives_leaf : (usable : ℕ) (old new : Paging) (before : List FreeChain) (own : FreeChain) (after : List FreeChain) (listed : List ℕ) (page : ℕ)
    → AreLists usable old (before ++ own ∷ after) listed → Beside old new own.first listed → times page listed ≡ 0 → IsLaterPage (number_in new) page
    → leaf_count old own.first < full_leaves usable → Shown new own.first (next_trunk old own.first) (leaves_of old own.first ++ page ∷ [])
    → Left usable old new before own after listed (freed usable page (list_of old own))
gives_leaf usable old new before own after listed page = go own.trunks own.first
  where
    go : (trunks first : ℕ) → AreLists usable old (before ++ record { trunks = trunks; first = first } ∷ after) listed → Beside old new first listed → times page listed ≡ 0 → IsLaterPage (number_in new) page
        → leaf_count old first < full_leaves usable → Shown new first (next_trunk old first) (leaves_of old first ++ page ∷ [])
        → Left usable old new before (record { trunks = trunks; first = first }) after listed (freed usable page (list_of old (record { trunks = trunks; first = first })))
    go zero first lists beside unlisted placed few shown =
        let whole = whole_of usable old before (record { trunks = zero; first = first }) after listed lists in absurd (whole.1 whole.0)
    go (suc k) first lists beside unlisted placed few shown =
        let own : FreeChain = record { trunks = suc k; first = first } in
        let rest = trunks_from old k (next_trunk old first) in
        let one : Trunk = record { page = first; leaves = leaves_of old first } in
        let len = length-leaves (old first) (leaf_count old first) in
        let test : nat_lt (length (leaves_of old first)) (full_leaves usable) ≡ true = lt-ltb (length (leaves_of old first)) (full_leaves usable) (omega (arith, len, few)) in
        let freed_is : freed usable page (one ∷ rest) ≡ record { page = first; leaves = leaves_of old first ++ page ∷ [] } ∷ rest = rw test refl in
        let stay = trunks_stay usable old new k (next_trunk old first) (rest_stays usable old new before k first after listed lists beside.stays) in
        let whole : AreTrunks usable old (suc k) first = (whole_of usable old before own after listed lists).0 in
        let own_is : list_of new own ≡ record { page = first; leaves = leaves_of old first ++ page ∷ [] } ∷ rest =
        ap (λ (ls : List ℕ). record { page = first; leaves = ls } ∷ trunks_from new k (next_trunk new first)) shown.leaves_are
        ∙ ap (λ (ts : List Trunk). record { page = first; leaves = leaves_of old first ++ page ∷ [] } ∷ ts) (ap (trunks_from new k) shown.next_is ∙ stay.0) in
        let room : leaf_count new first ≤ usable / 4 - 2 = omega (arith, shown.count_is, length-append (leaves_of old first) (page ∷ []), len, few) in
        gains usable old new before own own after listed (freed usable page (list_of old own)) page lists beside refl
        (whole.0, room, subst (λ (n : ℕ). AreTrunks usable new k n) (sym shown.next_is) (stay.1 whole.2)) (own_is ∙ sym freed_is)
        (λ n. times_freed n usable page one rest ∙ ap (λ (m : ℕ). one_if (n == page) + m) (sym (counts_own old k first n))) unlisted placed

-- a page is given as a trunk
pub gives_trunk : (usable : ℕ) (old new : Paging) (before : List FreeChain) (own : FreeChain) (after : List FreeChain) (listed : List ℕ) (page : ℕ)
    → AreLists usable old (before ++ own ∷ after) listed → Beside old new own.first listed → times page listed ≡ 0 → IsLaterPage (number_in new) page
    → full_leaves usable ≤ leaf_count old own.first → leaf_count old own.first ≤ most_leaves usable
    → Shown new own.first page [] → Shown new page (next_trunk old own.first) (leaves_of old own.first)
    → Left usable old new before own after listed (freed usable page (list_of old own))
gives_trunk usable old new before own after listed page = go own.trunks own.first
  where
    go : (trunks first : ℕ) → AreLists usable old (before ++ record { trunks = trunks; first = first } ∷ after) listed → Beside old new first listed → times page listed ≡ 0 → IsLaterPage (number_in new) page
        → full_leaves usable ≤ leaf_count old first → leaf_count old first ≤ most_leaves usable
        → Shown new first page [] → Shown new page (next_trunk old first) (leaves_of old first)
        → Left usable old new before (record { trunks = trunks; first = first }) after listed (freed usable page (list_of old (record { trunks = trunks; first = first })))
    go zero first lists beside unlisted placed many most head shown =
        let whole = whole_of usable old before (record { trunks = zero; first = first }) after listed lists in absurd (whole.1 whole.0)
    go (suc k) first lists beside unlisted placed many most head shown =
        let own : FreeChain = record { trunks = suc k; first = first } in
        let own' : FreeChain = record { trunks = suc (suc k); first = first } in
        let rest = trunks_from old k (next_trunk old first) in
        let one : Trunk = record { page = first; leaves = leaves_of old first } in
        let len = length-leaves (old first) (leaf_count old first) in
        let test : nat_lt (length (leaves_of old first)) (full_leaves usable) ≡ false = le-ltb (length (leaves_of old first)) (full_leaves usable) (omega (arith, len, many)) in
        let freed_is : freed usable page (one ∷ rest) ≡ record { page = first; leaves = [] } ∷ record { page = page; leaves = leaves_of old first } ∷ rest = rw test refl in
        let stay = trunks_stay usable old new k (next_trunk old first) (rest_stays usable old new before k first after listed lists beside.stays) in
        let whole : AreTrunks usable old (suc k) first = (whole_of usable old before own after listed lists).0 in
        let behind : trunks_from new (suc k) page ≡ record { page = page; leaves = leaves_of old first } ∷ rest =
        ap (λ (ls : List ℕ). record { page = page; leaves = ls } ∷ trunks_from new k (next_trunk new page)) shown.leaves_are
        ∙ ap (λ (ts : List Trunk). record { page = page; leaves = leaves_of old first } ∷ ts) (ap (trunks_from new k) shown.next_is ∙ stay.0) in
        let own_is : list_of new own' ≡ record { page = first; leaves = [] } ∷ record { page = page; leaves = leaves_of old first } ∷ rest =
        ap (λ (ls : List ℕ). record { page = first; leaves = ls } ∷ trunks_from new (suc k) (next_trunk new first)) head.leaves_are
        ∙ ap (λ (ts : List Trunk). record { page = first; leaves = [] } ∷ ts) (ap (trunks_from new (suc k)) head.next_is ∙ behind) in
        let room : leaf_count new first ≤ usable / 4 - 2 = omega (arith, head.count_is) in
        let room_behind : leaf_count new page ≤ usable / 4 - 2 = omega (arith, shown.count_is, len, most) in
        let behind_whole : AreTrunks usable new (suc k) page = (omega (arith, placed.0), room_behind, subst (λ (n : ℕ). AreTrunks usable new k n) (sym shown.next_is) (stay.1 whole.2)) in
        gains usable old new before own own' after listed (freed usable page (list_of old own)) page lists beside refl
        (whole.0, room, subst (λ (n : ℕ). AreTrunks usable new (suc k) n) (sym head.next_is) behind_whole) (own_is ∙ sym freed_is)
        (λ n. times_freed n usable page one rest ∙ ap (λ (m : ℕ). one_if (n == page) + m) (sym (counts_own old k first n))) unlisted placed

-- all lists stay
pub lists_kept : (usable : ℕ) (old new : Paging) (before : List FreeChain) (own : FreeChain) (after : List FreeChain) (listed : List ℕ)
    → AreLists usable old (before ++ own ∷ after) listed → Beside old new own.first listed → ((n : ℕ) → 0 < times n listed → new n ≡ old n)
    → Left usable old new before own after listed (list_of old own)
lists_kept usable old new before own after listed lists beside stays =
    let within = own_within usable old before own after listed lists in
    let stay = trunks_stay usable old new own.trunks own.first (λ n some. stays n (omega (arith, within n, some))) in
    let chain : chain_of_free old own ≡ pages_of (list_of old own) = pages_are old own.trunks own.first in
    record {
      own' = own;
      first_is = refl;
      own_is = stay.0;
      again = relisted usable old new before own own after listed (list_of old own) lists beside (record {
        first_is = refl;
        whole = stay.1 (whole_of usable old before own after listed lists).0;
        trunks_are = stay.0;
        single = λ n. (let same = ap (times n) chain in omega (arith, same, within n, single_from_distinct listed lists.distinct n));
        found = λ n some. inl (let same = ap (times n) chain in omega (arith, same, some));
      });
    }
