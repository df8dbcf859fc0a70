-- Free pages that are handed out and taken back: what becomes of the lists, and of which pages are free.
use Rattle.std.proofs.Common.{◌≡◌, ◌≢◌, ◌+◌, ◌*◌, ◌<◌, ◌≤◌, ◌∙◌, ℕ, zero, suc, List, [], ◌∷◌, ◌++◌, All, Some, None, refl, sym, ap, subst, arith, inl, inr, ⊎_elim, true}
use Rattle.std.specs.Prelude.{◌==◌, nat_lt, IsTrue}
use Rattle.std.specs.List.{flat_map}
use Rattle.std.proofs.lemmas.Bool.{cases_lt, eq-eqb, lt-ltb, ltb-true, ne_eqb}
use Rattle.std.proofs.lemmas.List.Concat.{flat_map-append}
use Rattle.std.proofs.lemmas.List.Elements.{All-head, All-tail}
use Rattle.spe_model.specs.Big.{u32_at}
use Rattle.spe_model.specs.FreeList.{AreTrunks, leaf_count, next_trunk}
use Rattle.spe_model.specs.Paging.{Paging}
use Rattle.spe_model.specs.Standing.{FreeChain, chain_of_free}
use Rattle.spe_model.specs.Walk.{is_met}
use Rattle.spe_space.specs.declared.pages.Pages.{Ghosts}
use Rattle.spe_space.specs.Calls.{sight}
use Rattle.spe_space.specs.Free.{IsFreed, IsGrown, IsLaterPage, IsSame, IsTaken}
use Rattle.spe_space.specs.Front.{number_in}
use Rattle.spe_frame.specs.Times.{one_if, times}
use Rattle.spe_frame.proofs.TimesLemmas.{here, holds_from_all, same_or_not, single_from_distinct, there, times-append}
use Rattle.spe_freelist.specs.Lists.{Trunk, freed, list_of, next_free, next_of, pages_of, taken, trunks_from}
use Rattle.spe_freelist.specs.Place.{AreLists, LeavesLists, Place, trunks_of}
use Rattle.spe_freelist.specs.Trunk.{fifteen, leaves_at}
use Rattle.spe_freelist.proofs.RelistLemmas.{all_left as all_front, all_right as all_back}
use Rattle.spe_freelist.proofs.ListLemmas.{next_more, pages_are, times_freed, times_left, times_trunk}
use Rattle.spe_freelist.proofs.TakeLemmas.{fifteen_has, fifteen_once}
use Rattle.spe_freelist.proofs.TrunkLemmas.{map_more}
use Rattle.spe_session.specs.Lists.{AreInOrder, is_listed, next_in, next_or}
use Rattle.spe_session.proofs.OrderLemmas.{free_is}

-- whether a page is in a list, by how often it is there
met_counted : (xs : List ℕ) (n : ℕ) → is_met xs n ≡ nat_lt 0 (times n xs)
met_counted [] n = refl
met_counted (x ∷ xs) n = ⊎_elim
    (λ (e : n ≡ x). let yes : is_met (x ∷ xs) n ≡ true = rw (eq-eqb x n (sym e)) refl in
    yes ∙ sym (lt-ltb 0 (times n (x ∷ xs)) (let at = here n x xs e in omega (arith, at))))
    (λ (e : n ≢ x). let rest : is_met (x ∷ xs) n ≡ is_met xs n = rw (ne_eqb x n (λ f. e (sym f))) refl in
    rest ∙ met_counted xs n ∙ sym (ap (nat_lt 0) (there n x xs e)))
    (same_or_not n x)

-- how often a page is in all lists: in those beside one, and in this
all_counted : (pages : Paging) (n : ℕ) (before : List FreeChain) (own : FreeChain) (after : List FreeChain)
    → times n (flat_map (chain_of_free pages) (before ++ own ∷ after)) ≡ (times n (flat_map (chain_of_free pages) before) + times n (flat_map (chain_of_free pages) after)) + times n (pages_of (list_of pages own))
all_counted pages n before own after =
    let one = ap (times n) (flat_map-append (chain_of_free pages) before (own ∷ after)) in
    let two = times-append n (flat_map (chain_of_free pages) before) (flat_map (chain_of_free pages) (own ∷ after)) in
    let three = times-append n (chain_of_free pages own) (flat_map (chain_of_free pages) after) in
    let four = ap (times n) (pages_are pages own.trunks own.first) in
    omega (arith, one, two, three, four)

-- lists with the same trunks have the same pages
lists_same : (a b : Paging) (fs : List FreeChain) → All (λ (f : FreeChain). list_of b f ≡ list_of a f) fs → flat_map (chain_of_free b) fs ≡ flat_map (chain_of_free a) fs
lists_same a b [] same = refl
lists_same a b (f ∷ fs) same =
    let one : chain_of_free b f ≡ chain_of_free a f =
    pages_are b f.trunks f.first ∙ ap pages_of (All-head (λ (f : FreeChain). list_of b f ≡ list_of a f) f fs same) ∙ sym (pages_are a f.trunks f.first) in
    rw (one, lists_same a b fs (All-tail (λ (f : FreeChain). list_of b f ≡ list_of a f) f fs same)) refl

-- whether a page is free before and after one list has changed, by how often it is in that list and in all others
pub record Counts (a b : Paging) (olds news : List Trunk) (n : ℕ) : Type 0 where
  pub others : ℕ
  pub was : is_listed a n ≡ nat_lt 0 (others + times n (pages_of olds))
  pub is : is_listed b n ≡ nat_lt 0 (others + times n (pages_of news))
  pub once : others + times n (pages_of olds) ≤ 1

listed_counted : (usable : ℕ) (pages : Paging) (before : List FreeChain) (own : FreeChain) (after : List FreeChain) (listed : List ℕ) → AreLists usable pages (before ++ own ∷ after) listed
    → (n : ℕ) → is_listed pages n ≡ nat_lt 0 ((times n (flat_map (chain_of_free pages) before) + times n (flat_map (chain_of_free pages) after)) + times n (pages_of (list_of pages own)))
unfolding is_listed
listed_counted usable pages before own after listed are n =
    ap (λ (xs : List ℕ). is_met xs n) (free_is usable pages (before ++ own ∷ after) listed are)
    ∙ met_counted (flat_map (chain_of_free pages) (before ++ own ∷ after)) n
    ∙ ap (nat_lt 0) (all_counted pages n before own after)

-- a page of one list is free
pub owns_trunks : (usable : ℕ) (pages : Paging) (before : List FreeChain) (own : FreeChain) (after : List FreeChain) (listed : List ℕ) → AreLists usable pages (before ++ own ∷ after) listed
    → (n : ℕ) → 0 < times n (pages_of (list_of pages own)) → IsTrue (is_listed pages n)
owns_trunks usable pages before own after listed are n some =
    listed_counted usable pages before own after listed are n
    ∙ lt-ltb 0 ((times n (flat_map (chain_of_free pages) before) + times n (flat_map (chain_of_free pages) after)) + times n (pages_of (list_of pages own))) (omega (arith, some))

pub owns : (usable : ℕ) (pages : Paging) (before : List FreeChain) (own : FreeChain) (after : List FreeChain) (listed : List ℕ) → AreLists usable pages (before ++ own ∷ after) listed
    → (n : ℕ) → 0 < times n (chain_of_free pages own) → IsTrue (is_listed pages n)
owns usable pages before own after listed are n some =
    owns_trunks usable pages before own after listed are n (subst (λ (xs : List ℕ). 0 < times n xs) (pages_are pages own.trunks own.first) some)

module _ {P : Type 0} (g : Ghosts P) (old new : P) (pages : Paging) (first : ℕ) (place : Place g old pages first) (trunks : List Trunk) (left : LeavesLists g old new pages first place trunks) where
  -- all lists are in order again, where page 1 names the number of pages
  pub order_again : (count : ℕ) → number_in (sight g new pages) ≡ count → AreInOrder (g.used old) count first (sight g new pages)
  order_again count number =
      let holds = holds_from_all (IsLaterPage (number_in (sight g new pages))) left.listed left.lists.within in
      let server = left.lists.whole in
      record {
        number = number;
        before = place.before;
        own = left.own;
        after = place.after;
        listed = left.listed;
        first_is = left.first_is;
        lists = left.lists;
        later = λ n free. holds n (
            let counted = listed_counted (g.used old) (sight g new pages) place.before left.own place.after left.listed left.lists n in
            let some = ltb-true 0 ((times n (flat_map (chain_of_free (sight g new pages)) place.before) + times n (flat_map (chain_of_free (sight g new pages)) place.after)) + times n (pages_of (list_of (sight g new pages) left.own)))
            (sym counted ∙ free) in
            let all = all_counted (sight g new pages) n place.before left.own place.after in
            let listed = ap (times n) server.pages_are in
            omega (arith, some, all, listed));
      }

  pub counts : (n : ℕ) → Counts (sight g old pages) (sight g new pages) (trunks_of g old pages place) trunks n
  counts n =
      let a = sight g old pages in
      let b = sight g new pages in
      let front = lists_same a b place.before (all_front (λ (f : FreeChain). list_of b f ≡ list_of a f) place.before place.after left.others) in
      let back = lists_same a b place.after (all_back (λ (f : FreeChain). list_of b f ≡ list_of a f) place.before place.after left.others) in
      let others : ℕ = times n (flat_map (chain_of_free a) place.before) + times n (flat_map (chain_of_free a) place.after) in
      let all = all_counted a n place.before place.own place.after in
      let listed = ap (times n) place.lists.whole.pages_are in
      let single = single_from_distinct place.listed place.lists.distinct n in
      record {
        others = others;
        was = listed_counted (g.used old) a place.before place.own place.after place.listed place.lists n;
        is = listed_counted (g.used old) b place.before left.own place.after left.listed left.lists n
            ∙ ap (nat_lt 0) (let one = ap (times n) front in let two = ap (times n) back in let three = ap (λ (ts : List Trunk). times n (pages_of ts)) left.own_is in omega (arith, one, two, three));
        once = omega (arith, all, listed, single);
      }

module _ (a b : Paging) (olds news : List Trunk) (counts : (n : ℕ) → Counts a b olds news n) where
  pub none_changed : ((n : ℕ) → times n (pages_of news) ≡ times n (pages_of olds)) → IsSame (is_listed a) (is_listed b)
  none_changed same = λ n. (counts n).is ∙ ap (nat_lt 0) (let one = same n in omega (arith, one)) ∙ sym (counts n).was

  pub one_taken : (page : ℕ) → ((n : ℕ) → times n (pages_of news) + one_if (n == page) ≡ times n (pages_of olds)) → IsTaken (is_listed a) (is_listed b) page
  one_taken page less =
      let c = counts page in
      let at = less page in
      let one : one_if (page == page) ≡ 1 = ap one_if (eq-eqb page page refl) in
      record {
        was = c.was ∙ lt-ltb 0 (c.others + times page (pages_of olds)) (omega (arith, at, one));
        taken = (let once = c.once in let gone : c.others + times page (pages_of news) ≡ 0 = omega (arith, at, one, once) in c.is ∙ ap (nat_lt 0) gone);
        others = λ n other. (counts n).is ∙ ap (nat_lt 0) (let so = less n in let none : one_if (n == page) ≡ 0 = ap one_if (ne_eqb n page other) in omega (arith, so, none)) ∙ sym (counts n).was;
      }

  pub one_given : (page : ℕ) → ((n : ℕ) → times n (pages_of news) ≡ one_if (n == page) + times n (pages_of olds)) → IsFreed (is_listed a) (is_listed b) page
  one_given page more =
      let c = counts page in
      let at = more page in
      let one : one_if (page == page) ≡ 1 = ap one_if (eq-eqb page page refl) in
      record {
        freed = c.is ∙ lt-ltb 0 (c.others + times page (pages_of news)) (omega (arith, at, one));
        others = λ n other. (counts n).is ∙ ap (nat_lt 0) (let so = more n in let none : one_if (n == page) ≡ 0 = ap one_if (ne_eqb n page other) in omega (arith, so, none)) ∙ sym (counts n).was;
      }

  pub sixteen_grown : (page : ℕ) → ((n : ℕ) → times n (pages_of news) ≡ times n (pages_of olds) + times n (fifteen page))
      → ((n : ℕ) → is_listed a n ≡ true → n < page) → IsGrown (is_listed a) (is_listed b) page
  sixteen_grown page more below =
      let fresh : (n : ℕ) → page ≤ n → (counts n).others + times n (pages_of olds) ≡ 0 = λ n high. elim (cases_lt 0 ((counts n).others + times n (pages_of olds))) [
        | inl some ↦ absurd (let low = below n ((counts n).was ∙ lt-ltb 0 ((counts n).others + times n (pages_of olds)) some) in omega (arith, low, high))
        | inr none ↦ omega (arith, none)
      ] in
      record {
        taken = (
            let none = fresh page (omega arith) in
            let at = more page in
            let gone : times page (fifteen page) ≡ 0 = elim (cases_lt 0 (times page (fifteen page))) [
              | inl some ↦ absurd (let is = ((fifteen_once page page).1 some).0 in omega (arith, is))
              | inr zeroth ↦ omega (arith, zeroth)
            ] in
            let no : (counts page).others + times page (pages_of news) ≡ 0 = omega (arith, none, at, gone) in
            (counts page).is ∙ ap (nat_lt 0) no);
        freed = λ n new other. (counts n).is ∙ lt-ltb 0 ((counts n).others + times n (pages_of news)) (
            let at = more n in
            let has = fifteen_has page n (omega (arith, new.0, other)) (omega (arith, new.1)) in omega (arith, at, has));
        others = λ n not_new. (counts n).is ∙ ap (nat_lt 0) (
            let at = more n in
            let gone : times n (fifteen page) ≡ 0 = elim (cases_lt 0 (times n (fifteen page))) [
              | inl some ↦ absurd (let is = (fifteen_once page n).1 some in not_new (omega (arith, is.0), omega (arith, is.1)))
              | inr zeroth ↦ omega (arith, zeroth)
            ] in omega (arith, at, gone)) ∙ sym (counts n).was;
      }

-- how many trunks a list has
abbrev pub trunk_count : List Trunk → ℕ
trunk_count [] = 0
trunk_count (t ∷ ts) = suc (trunk_count ts)

-- a list that stands has a trunk
pub has_trunk : (usable : ℕ) (pages : Paging) (f : FreeChain) → f.first ≢ 0 → AreTrunks usable pages f.trunks f.first → 0 < trunk_count (list_of pages f)
has_trunk usable pages f some are = go f.trunks f.first some are
  where
    go : (count first : ℕ) → first ≢ 0 → AreTrunks usable pages count first → 0 < trunk_count (trunks_from pages count first)
    go zero first some are = absurd (some are)
    go (suc count) first some are = omega arith

-- what is left of a list when a page is taken, counted
pub taken_counted : (number page : ℕ) (ts : List Trunk) → next_free ts ≡ Some page → (n : ℕ) → times n (pages_of (taken number ts)) + one_if (n == page) ≡ times n (pages_of ts)
taken_counted number page [] next n = absurd cc
taken_counted number page (t ∷ ts) next n =
    times_left n number t.page page t.leaves ts next ∙ sym (times_trunk n t ts)

pub grown_counted : (number : ℕ) (ts : List Trunk) → next_free ts ≡ None → 0 < trunk_count ts → (n : ℕ) → times n (pages_of (taken number ts)) ≡ times n (pages_of ts) + times n (fifteen (number + 1))
grown_counted number [] next some n = absurd (omega (arith, some))
grown_counted number (t ∷ ts) next some n = go t.page t.leaves ts next
  where
    go : (p : ℕ) (leaves : List ℕ) (others : List Trunk) → next_of leaves others ≡ None
        → times n (pages_of (taken number (record { page = p; leaves = leaves } ∷ others))) ≡ times n (pages_of (record { page = p; leaves = leaves } ∷ others)) + times n (fifteen (number + 1))
    go p [] [] none =
        let one = times_trunk n (record { page = p; leaves = fifteen (number + 1) }) [] in
        let two = times_trunk n (record { page = p; leaves = [] }) [] in
        omega (arith, one, two)
    go p [] (u ∷ us) none = absurd cc
    go p (m ∷ ms) others none = absurd cc

pub freed_counted : (usable page : ℕ) (ts : List Trunk) → 0 < trunk_count ts → (n : ℕ) → times n (pages_of (freed usable page ts)) ≡ one_if (n == page) + times n (pages_of ts)
freed_counted usable page [] some n = absurd (omega (arith, some))
freed_counted usable page (t ∷ ts) some n = let is = times_freed n usable page t ts in let was = times_trunk n t ts in omega (arith, is, was)

-- the page that is taken next, by the bytes of the first trunk and by the list
pub next_is : (usable : ℕ) (pages : Paging) (f : FreeChain) → f.first ≢ 0 → AreTrunks usable pages f.trunks f.first → next_in f.first pages ≡ next_free (list_of pages f)
unfolding next_in
next_is usable pages f some are = go f.trunks f.first some are
  where
    behind : (count first leaf : ℕ) → AreTrunks usable pages count first → next_or leaf 0 first ≡ next_of [] (trunks_from pages count first)
    behind zero first leaf are = rw are refl
    behind (suc count) zero leaf are = absurd (omega (arith, are.0))
    behind (suc count) (suc first) leaf are = refl

    by_leaves : (first leaves : ℕ) (rest : List Trunk) → leaf_count pages first ≡ leaves → ((leaf : ℕ) → next_or leaf 0 (next_trunk pages first) ≡ next_of [] rest)
        → next_or (u32_at (pages first) (4 + 4 * leaf_count pages first)) (leaf_count pages first) (next_trunk pages first) ≡ next_of (leaves_at (pages first) (leaf_count pages first)) rest
    by_leaves first zero rest is none =
        ap (λ (c : ℕ). next_or (u32_at (pages first) (4 + 4 * c)) c (next_trunk pages first)) is ∙ none (u32_at (pages first) 4) ∙ sym (ap (λ (c : ℕ). next_of (leaves_at (pages first) c) rest) is)
    by_leaves first (suc m) rest is none =
        let more : leaf_count pages first ≡ m + 1 = omega (arith, is) in
        let leaf : u32_at (pages first) (4 + 4 * suc m) ≡ u32_at (pages first) (8 + 4 * m) = ap (u32_at (pages first)) (omega arith) in
        ap (λ (c : ℕ). next_or (u32_at (pages first) (4 + 4 * c)) c (next_trunk pages first)) is ∙ ap (λ (k : ℕ). Some k) leaf
        ∙ sym (ap (λ (c : ℕ). next_of (leaves_at (pages first) c) rest) more ∙ ap (λ (ls : List ℕ). next_of ls rest) (map_more (λ (i : ℕ). u32_at (pages first) (8 + 4 * i)) m)
        ∙ next_more (u32_at (pages first) (8 + 4 * m)) (leaves_at (pages first) m) rest)

    go : (count first : ℕ) → first ≢ 0 → AreTrunks usable pages count first
        → next_or (u32_at (pages first) (4 + 4 * leaf_count pages first)) (leaf_count pages first) (next_trunk pages first) ≡ next_free (trunks_from pages count first)
    go zero first some are = absurd (some are)
    go (suc count) first some are = by_leaves first (leaf_count pages first) (trunks_from pages count (next_trunk pages first)) refl (λ leaf. behind count (next_trunk pages first) leaf are.2)
