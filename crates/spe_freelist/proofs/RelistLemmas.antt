-- Lists that stand again after one of them has changed.
use Rattle.std.proofs.Common.{◌≡◌, ◌≢◌, ◌⊎◌, ℕ, zero, suc, ◌+◌, ◌*◌, ◌<◌, ◌≤◌, ◌∙◌, List, [], ◌∷◌, ◌++◌, All, length, map, take, refl, sym, ap, subst, inl, inr, ⊎_elim, arith}
use Rattle.std.specs.Prelude.{IsOk}
use Rattle.std.specs.List.{flat_map}
use Rattle.std.proofs.lemmas.Bool.{cases_lt}
use Rattle.std.proofs.lemmas.List.Concat.{flat_map-append}
use Rattle.std.proofs.lemmas.List.Elements.{All-append, All-cons, All-head, All-nil, All-tail}
use Rattle.spe_model.specs.Big.{u32_at}
use Rattle.spe_model.specs.FreeList.{AreTrunks, leaves_of, names_node, next_trunk, trunk_pages}
use Rattle.spe_model.specs.Header.{header_of}
use Rattle.spe_model.specs.Journal.{numbers_from}
use Rattle.spe_model.specs.Paging.{Paging}
use Rattle.spe_model.specs.Standing.{FreeChain, IsFreeChain, chain_of_free}
use Rattle.spe_space.specs.Free.{IsLaterPage}
use Rattle.spe_space.specs.Front.{list_in, number_in}
use Rattle.spe_frame.specs.Times.{AreSingle, times}
use Rattle.spe_frame.proofs.TimesLemmas.{all_from_holds, distinct_from_single, here, holds_from_all, single_from_distinct, times-append}
use Rattle.spe_freelist.specs.Lists.{Trunk, list_of, pages_of}
use Rattle.spe_freelist.specs.Place.{AreLists}
use Rattle.spe_freelist.proofs.ListLemmas.{pages_are, trunks_stay}

pub all_left : {X : Type 0} (P : X → Type 0) (xs ys : List X) → All P (xs ++ ys) → All P xs
all_left P [] ys all = All-nil P
all_left P (x ∷ xs) ys all = All-cons P x xs (All-head P x (xs ++ ys) all) (all_left P xs ys (All-tail P x (xs ++ ys) all))

pub all_right : {X : Type 0} (P : X → Type 0) (xs ys : List X) → All P (xs ++ ys) → All P ys
all_right P [] ys all = all
all_right P (x ∷ xs) ys all = all_right P xs ys (All-tail P x (xs ++ ys) all)

abbrev SameList : (old new : Paging) → FreeChain → Type 0
SameList old new f = list_of new f ≡ list_of old f

-- lists that stay
pub record Stay (usable : ℕ) (old new : Paging) (fs : List FreeChain) : Type 0 where
  pub pages : flat_map (chain_of_free new) fs ≡ flat_map (chain_of_free old) fs
  pub whole : All (IsFreeChain usable new) fs
  pub same : All (SameList old new) fs

pub lists_stay : (usable : ℕ) (old new : Paging) (fs : List FreeChain) → All (IsFreeChain usable old) fs
    → ((n : ℕ) → 0 < times n (flat_map (chain_of_free old) fs) → new n ≡ old n) → Stay usable old new fs
lists_stay usable old new [] whole stays = record { pages = refl; whole = All-nil (IsFreeChain usable new); same = All-nil (SameList old new) }
lists_stay usable old new (f ∷ fs) whole stays =
    let split : (n : ℕ) → times n (flat_map (chain_of_free old) (f ∷ fs)) ≡ times n (chain_of_free old f) + times n (flat_map (chain_of_free old) fs) =
    λ n. times-append n (chain_of_free old f) (flat_map (chain_of_free old) fs) in
    let one = trunks_stay usable old new f.trunks f.first (λ n some. stays n (omega (arith, some, split n))) in
    let rest = lists_stay usable old new fs (All-tail (IsFreeChain usable old) f fs whole) (λ n some. stays n (omega (arith, some, split n))) in
    let same_pages : chain_of_free new f ≡ chain_of_free old f = pages_are new f.trunks f.first ∙ ap pages_of one.0 ∙ sym (pages_are old f.trunks f.first) in
    record {
      pages = rw (same_pages, rest.pages) refl;
      whole = All-cons (IsFreeChain usable new) f fs (one.1 (All-head (IsFreeChain usable old) f fs whole)) rest.whole;
      same = All-cons (SameList old new) f fs one.0 rest.same;
    }

-- what is asked of a list that has changed
pub record Changed (usable : ℕ) (old new : Paging) (own own' : FreeChain) (listed : List ℕ) (trunks : List Trunk) : Type 0 where
  pub first_is : own'.first ≡ own.first
  pub whole : AreTrunks usable new own'.trunks own'.first
  pub trunks_are : list_of new own' ≡ trunks
  pub single : AreSingle (pages_of trunks)
  pub found : (n : ℕ) → 0 < times n (pages_of trunks) → (0 < times n (chain_of_free old own)) ⊎ ((times n listed ≡ 0) × IsLaterPage (number_in new) n)

-- and of the pages beside it
pub record Beside (old new : Paging) (first : ℕ) (listed : List ℕ) : Type 0 where
  pub legal : IsOk (header_of (take 100 (new 1)))
  pub list : list_in new ≡ list_in old
  pub named : names_node (new 1) ≡ names_node (old 1)
  pub more : number_in old ≤ number_in new
  pub stays : (n : ℕ) → 0 < times n listed → n ≢ first → new n ≡ old n

pub record Relisted (usable : ℕ) (old new : Paging) (before : List FreeChain) (own own' : FreeChain) (after : List FreeChain) (listed : List ℕ) (trunks : List Trunk) : Type 0 where
  pub listed' : List ℕ
  pub lists : AreLists usable new (before ++ own' ∷ after) listed'
  pub others : All (SameList old new) (before ++ after)
  pub lacks : (n : ℕ) → times n (pages_of trunks) ≡ 0 → (0 < times n (chain_of_free old own)) ⊎ (times n listed ≡ 0) → times n listed' ≡ 0

-- all pages of the lists, counted
counted : (pages : Paging) (node n : ℕ) (before : List FreeChain) (own : FreeChain) (after : List FreeChain)
    → times n (node ∷ flat_map (chain_of_free pages) (before ++ own ∷ after))
    ≡ times n (node ∷ []) + (times n (flat_map (chain_of_free pages) before) + (times n (chain_of_free pages own) + times n (flat_map (chain_of_free pages) after)))
counted pages node n before own after =
    let one = ap (times n) (flat_map-append (chain_of_free pages) before (own ∷ after)) in
    let two = times-append n (flat_map (chain_of_free pages) before) (flat_map (chain_of_free pages) (own ∷ after)) in
    let three = times-append n (chain_of_free pages own) (flat_map (chain_of_free pages) after) in
    omega (arith, one, two, three)

-- a list begins with its first trunk
pub begins : (usable : ℕ) (pages : Paging) (f : FreeChain) → f.first ≢ 0 → IsFreeChain usable pages f → 1 ≤ times f.first (chain_of_free pages f)
begins usable pages f started whole = go usable pages f.trunks f.first started whole
  where
    go : (usable : ℕ) (pages : Paging) (count first : ℕ) → first ≢ 0 → AreTrunks usable pages count first → 1 ≤ times first (trunk_pages pages count first)
    go usable pages zero first started whole = absurd (started whole)
    go usable pages (suc count) first started whole = let at = here first first (leaves_of pages first ++ trunk_pages pages count (next_trunk pages first)) refl in omega arith

pub relisted : (usable : ℕ) (old new : Paging) (before : List FreeChain) (own own' : FreeChain) (after : List FreeChain) (listed : List ℕ) (trunks : List Trunk)
    → AreLists usable old (before ++ own ∷ after) listed → Beside old new own.first listed → Changed usable old new own own' listed trunks
    → Relisted usable old new before own own' after listed trunks
relisted usable old new before own own' after listed trunks lists beside changed =
    let server = lists.whole in
    let single = single_from_distinct listed lists.distinct in
    let count_old : (n : ℕ) → times n listed ≡ times n (server.node ∷ []) + (times n (flat_map (chain_of_free old) before) + (times n (chain_of_free old own) + times n (flat_map (chain_of_free old) after))) =
    λ n. ap (times n) server.pages_are ∙ counted old server.node n before own after in
    let whole_right = all_right (IsFreeChain usable old) before (own ∷ after) server.whole in
    let own_first = begins usable old own (All-head (λ (f : FreeChain). f.first ≢ 0) own after (all_right (λ (f : FreeChain). f.first ≢ 0) before (own ∷ after) server.started))
    (All-head (IsFreeChain usable old) own after whole_right) in
    let apart : (n : ℕ) → 0 < times n (server.node ∷ []) + (times n (flat_map (chain_of_free old) before) + times n (flat_map (chain_of_free old) after)) → new n ≡ old n = λ n some.
    beside.stays n (omega (arith, some, count_old n)) (λ (e : n ≡ own.first).
    let at : 1 ≤ times n (chain_of_free old own) = subst (λ (m : ℕ). 1 ≤ times m (chain_of_free old own)) (sym e) own_first in
    absurd (omega (arith, at, some, count_old n, single n))) in
    let left = lists_stay usable old new before (all_left (IsFreeChain usable old) before (own ∷ after) server.whole) (λ n some. apart n (omega (arith, some))) in
    let right = lists_stay usable old new after (All-tail (IsFreeChain usable old) own after whole_right) (λ n some. apart n (omega (arith, some))) in
    let node_same : new server.node ≡ old server.node = apart server.node (let at = here server.node server.node [] refl in omega (arith, at)) in
    let own_pages : chain_of_free new own' ≡ pages_of trunks = pages_are new own'.trunks own'.first ∙ ap pages_of changed.trunks_are in
    let all = server.node ∷ flat_map (chain_of_free new) (before ++ own' ∷ after) in
    let count_new : (n : ℕ) → times n all ≡ times n (server.node ∷ []) + (times n (flat_map (chain_of_free old) before) + (times n (pages_of trunks) + times n (flat_map (chain_of_free old) after))) =
    λ n. (let a = counted new server.node n before own' after in
    let b = ap (times n) left.pages in
    let c = ap (times n) right.pages in
    let d = ap (times n) own_pages in
    omega (arith, a, b, c, d)) in
    let holds = holds_from_all (IsLaterPage (number_in old)) listed lists.within in
    let later : (n : ℕ) → 0 < times n listed → IsLaterPage (number_in new) n = λ n some. (let is = holds n some in (is.0, omega (arith, is.1, beside.more))) in
    let lengths : length (before ++ own' ∷ after) ≡ length (before ++ own ∷ after) = same_length before own own' after in
    let firsts : map (λ (f : FreeChain). f.first) (before ++ own' ∷ after) ≡ map (λ (f : FreeChain). f.first) (before ++ own ∷ after) =
    same_firsts before own own' after changed.first_is in
    record {
      listed' = all;
      lists = record {
        legal = beside.legal;
        named = beside.named ∙ lists.named;
        whole = record {
          node = server.node;
          node_is = server.node_is ∙ sym beside.list;
          some = omega (arith, lengths, server.some);
          few = omega (arith, lengths, server.few);
          firsts = firsts ∙ server.firsts ∙ sym (ap (λ (xs : List ℕ). map (λ i. u32_at xs (4 + 4 * i)) (numbers_from 0 (u32_at xs 0))) node_same);
          whole = All-append (IsFreeChain usable new) before (own' ∷ after) left.whole (All-cons (IsFreeChain usable new) own' after changed.whole right.whole);
          started = started_again before own own' after changed.first_is server.started;
          pages_are = refl;
        };
        distinct = distinct_from_single all (λ n. single_again (times n (pages_of trunks)) (times n all) (times n listed) (times n (server.node ∷ [])) (times n (flat_map (chain_of_free old) before)) (times n (flat_map (chain_of_free old) after)) (times n (chain_of_free old own)) (count_old n) (count_new n) (single n) (changed.single n) (λ some. found_again (changed.found n some)));
        within = all_from_holds (IsLaterPage (number_in new)) all (λ n some. elim (cases_lt 0 (times n (pages_of trunks))) [
          | inl mine ↦ ⊎_elim
              (λ (was : 0 < times n (chain_of_free old own)). later n (omega (arith, was, count_old n)))
              (λ (fresh : (times n listed ≡ 0) × IsLaterPage (number_in new) n). fresh.1)
              (changed.found n mine)
          | inr none ↦ later n (omega (arith, some, none, count_old n, count_new n))
        ]);
      };
      others = All-append (SameList old new) before after left.same right.same;
      lacks = λ n none was. ⊎_elim
          (λ (own_had : 0 < times n (chain_of_free old own)). omega (arith, none, own_had, count_old n, count_new n, single n))
          (λ (nowhere : times n listed ≡ 0). omega (arith, none, nowhere, count_old n, count_new n))
          was;
    }
  where
    same_length : (before : List FreeChain) (own own' : FreeChain) (after : List FreeChain) → length (before ++ own' ∷ after) ≡ length (before ++ own ∷ after)
    same_length [] own own' after = refl
    same_length (f ∷ fs) own own' after = let rest = same_length fs own own' after in omega arith

    same_firsts : (before : List FreeChain) (own own' : FreeChain) (after : List FreeChain) → own'.first ≡ own.first
        → map (λ (f : FreeChain). f.first) (before ++ own' ∷ after) ≡ map (λ (f : FreeChain). f.first) (before ++ own ∷ after)
    same_firsts [] own own' after same = rw same refl
    same_firsts (f ∷ fs) own own' after same = ap (λ (ns : List ℕ). f.first ∷ ns) (same_firsts fs own own' after same)

    started_again : (before : List FreeChain) (own own' : FreeChain) (after : List FreeChain) → own'.first ≡ own.first
        → All (λ (f : FreeChain). f.first ≢ 0) (before ++ own ∷ after) → All (λ (f : FreeChain). f.first ≢ 0) (before ++ own' ∷ after)
    started_again [] own own' after same all =
        All-cons (λ (f : FreeChain). f.first ≢ 0) own' after (λ e. All-head (λ (f : FreeChain). f.first ≢ 0) own after all (sym same ∙ e)) (All-tail (λ (f : FreeChain). f.first ≢ 0) own after all)
    started_again (f ∷ fs) own own' after same all =
        All-cons (λ (g : FreeChain). g.first ≢ 0) f (fs ++ own' ∷ after) (All-head (λ (g : FreeChain). g.first ≢ 0) f (fs ++ own ∷ after) all)
        (started_again fs own own' after same (All-tail (λ (g : FreeChain). g.first ≢ 0) f (fs ++ own ∷ after) all))

    found_again : {A B C : Type 0} → A ⊎ (B × C) → A ⊎ B
    found_again either = ⊎_elim (λ a. inl a) (λ b. inr b.0) either

    single_again : (all new_all listed a b c mine : ℕ) → listed ≡ a + (b + (mine + c)) → new_all ≡ a + (b + (all + c)) → listed ≤ 1 → all ≤ 1 → (0 < all → (0 < mine) ⊎ (listed ≡ 0)) → new_all ≤ 1
    single_again all new_all listed a b c mine old new few one found = elim (cases_lt 0 all) [
      | inl some ↦ ⊎_elim (λ (m : 0 < mine). omega (arith, m, old, new, few, one)) (λ (none : listed ≡ 0). omega (arith, none, old, new, one)) (found some)
      | inr zero_many ↦ omega (arith, zero_many, old, new, few)
    ]

-- the pages of a list are among all
pub own_within : (usable : ℕ) (old : Paging) (before : List FreeChain) (own : FreeChain) (after : List FreeChain) (listed : List ℕ)
    → AreLists usable old (before ++ own ∷ after) listed → (n : ℕ) → times n (chain_of_free old own) ≤ times n listed
own_within usable old before own after listed lists n =
    let all = ap (times n) lists.whole.pages_are ∙ counted old lists.whole.node n before own after in
    omega (arith, all)
