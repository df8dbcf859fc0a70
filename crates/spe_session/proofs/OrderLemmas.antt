-- Free lists that stay in order where a page is put, or pages are added.
use Rattle.std.proofs.Common.{inl, inr, ◌≡◌, ◌≢◌, ◌⊎◌, ◌+◌, ◌*◌, ◌^◌, ◌<◌, ◌≤◌, ◌∙◌, ℕ, List, [], ◌∷◌, ◌++◌, length, take, map, All, refl, sym, ap, subst, arith, ⊎_elim, true, false}
use Rattle.std.specs.Prelude.{◌==◌, ◌&&◌, Bool, not, IsOk, IsTrue}
use Rattle.std.specs.List.{flat_map}
use Rattle.std.proofs.lemmas.Bool.{eq-eqb, ne_eqb}
use Rattle.spe_model.specs.Big.{u32_at}
use Rattle.spe_model.specs.FreeList.{names_node}
use Rattle.spe_model.specs.Header.{header_of}
use Rattle.spe_model.specs.Journal.{numbers_from}
use Rattle.spe_model.specs.Paging.{Paging}
use Rattle.spe_model.specs.Standing.{FreeChain, IsOneOf, IsServer, IsStock, Whether, chain_of_free}
use Rattle.spe_model.specs.Verdict.{free_pages}
use Rattle.spe_model.specs.Walk.{is_met}
use Rattle.spe_space.specs.Free.{IsApart, IsLaterPage}
use Rattle.spe_space.specs.Front.{list_in, number_in, recounted}
use Rattle.spe_space.proofs.FrontLemmas.{u32_at-take}
use Rattle.spe_frame.specs.Times.{times}
use Rattle.spe_frame.proofs.TimesLemmas.{all_from_holds, here, holds_from_all, same_or_not, there}
use Rattle.spe_verdict.proofs.FreeLemmas.{free_complete}
use Rattle.spe_verdict.proofs.TimesLemmas as verdict
use Rattle.spe_freelist.specs.Place.{AreLists}
use Rattle.spe_freelist.proofs.CaseLemmas.{beside_grown}
use Rattle.spe_freelist.proofs.RelistLemmas.{lists_stay}
use Rattle.spe_session.specs.Lists.{AreInOrder, is_listed}

-- the pages of whole lists are those that a walk finds
pub free_is : (usable : ℕ) (pages : Paging) (lists : List FreeChain) (listed : List ℕ) → AreLists usable pages lists listed
    → free_pages (number_in pages) pages ≡ flat_map (chain_of_free pages) lists
free_is usable pages lists listed are =
    let holds = holds_from_all (IsLaterPage (number_in pages)) listed are.within in
    let one : All (IsOneOf (number_in pages)) listed = all_from_holds (IsOneOf (number_in pages)) listed (λ n some. (omega (arith, (holds n some).0), (holds n some).1)) in
    let few : length listed ≤ number_in pages =
    verdict.length_within (number_in pages) listed (verdict.single_from_distinct listed are.distinct) (verdict.holds_from_all (IsOneOf (number_in pages)) listed one) in
    (free_complete usable (number_in pages) pages lists listed
    (subst (λ (b : Bool). Whether b (IsServer usable pages lists listed) (IsStock usable pages lists listed)) (sym are.named) are.whole) few).pages_are

met_of : (xs : List ℕ) (n : ℕ) → 0 < times n xs → is_met xs n ≡ true
met_of [] n some = absurd (omega (arith, some))
met_of (x ∷ xs) n some = ⊎_elim
    (λ (e : n ≡ x). rw (eq-eqb x n (sym e)) refl)
    (λ (other : n ≢ x). let rest : is_met xs n ≡ true = met_of xs n (omega (arith, some, there n x xs other)) in rw (ne_eqb x n (λ e. other (sym e))) rest)
    (same_or_not n x)

-- a page of the lists is free, or it is the node
pub listed_free : (usable count first : ℕ) (pages : Paging) (o : AreInOrder usable count first pages) (n : ℕ) → 0 < times n o.listed → (is_listed pages n ≡ true) ⊎ (n ≡ list_in pages)
unfolding is_listed
listed_free usable count first pages o n some =
    let lists = o.before ++ o.own ∷ o.after in
    let server = o.lists.whole in
    let all : times n o.listed ≡ times n (server.node ∷ flat_map (chain_of_free pages) lists) = ap (times n) server.pages_are in
    ⊎_elim
    (λ (e : n ≡ server.node). inr (e ∙ server.node_is))
    (λ (other : n ≢ server.node).
    let mine : 0 < times n (flat_map (chain_of_free pages) lists) = omega (arith, all, some, there n server.node (flat_map (chain_of_free pages) lists) other) in
    inl (ap (λ (xs : List ℕ). is_met xs n) (free_is usable pages lists o.listed o.lists) ∙ met_of (flat_map (chain_of_free pages) lists) n mine))
    (same_or_not n server.node)

-- where the listed pages stay, and page 1 names the same lists and no fewer pages, all lists stay
pub keep_order : (usable count later first : ℕ) (a b : Paging) (o : AreInOrder usable count first a)
    → ((n : ℕ) → 0 < times n o.listed → b n ≡ a n) → number_in b ≡ later → count ≤ later → list_in b ≡ list_in a → names_node (b 1) ≡ names_node (a 1) → IsOk (header_of (take 100 (b 1)))
    → AreInOrder usable later first b × ((n : ℕ) → is_listed b n ≡ is_listed a n)
unfolding is_listed
keep_order usable count later first a b o stays number more list named legal =
    let lists : List FreeChain = o.before ++ o.own ∷ o.after in
    let server = o.lists.whole in
    let all : (n : ℕ) → times n o.listed ≡ times n (server.node ∷ flat_map (chain_of_free a) lists) = λ n. ap (times n) server.pages_are in
    let stay = lists_stay usable a b lists server.whole (λ n some. stays n (omega (arith, all n, some))) in
    let node_same : b server.node ≡ a server.node = stays server.node (let at = here server.node server.node (flat_map (chain_of_free a) lists) refl in omega (arith, at, all server.node)) in
    let holds = holds_from_all (IsLaterPage (number_in a)) o.listed o.lists.within in
    let wider : (n : ℕ) → IsLaterPage (number_in a) n → IsLaterPage (number_in b) n = λ n is. (is.0, omega (arith, is.1, o.number, number, more)) in
    let again : AreLists usable b lists o.listed = record {
      legal = legal;
      named = named ∙ o.lists.named;
      whole = record {
        node = server.node;
        node_is = server.node_is ∙ sym list;
        some = server.some;
        few = server.few;
        firsts = server.firsts ∙ sym (ap (λ (xs : List ℕ). map (λ i. u32_at xs (4 + 4 * i)) (numbers_from 0 (u32_at xs 0))) node_same);
        whole = stay.whole;
        started = server.started;
        pages_are = server.pages_are ∙ ap (λ (xs : List ℕ). server.node ∷ xs) (sym stay.pages);
      };
      distinct = o.lists.distinct;
      within = all_from_holds (IsLaterPage (number_in b)) o.listed (λ n some. wider n (holds n some));
    } in
    let same : free_pages (number_in b) b ≡ free_pages (number_in a) a =
    free_is usable b lists o.listed again ∙ stay.pages ∙ sym (free_is usable a lists o.listed o.lists) in
    let each : (n : ℕ) → is_listed b n ≡ is_listed a n = λ n. ap (λ (xs : List ℕ). is_met xs n) same in (
      record {
        number = number;
        before = o.before;
        own = o.own;
        after = o.after;
        listed = o.listed;
        first_is = o.first_is;
        lists = again;
        later = λ n free. wider n (o.later n (subst IsTrue (each n) free));
      },
      each,
    )

number_kept : (k : ℕ) (xs ys : List ℕ) → k + 4 ≤ 40 → take 40 xs ≡ take 40 ys → u32_at xs k ≡ u32_at ys k
number_kept k xs ys low alike = sym (u32_at-take 40 k xs low) ∙ ap (λ (zs : List ℕ). u32_at zs k) alike ∙ u32_at-take 40 k ys low

-- a page is put that is apart from the lists
pub put_order : (usable count first : ℕ) (a b : Paging) (page : ℕ) (bytes : List ℕ) → AreInOrder usable count first a → IsApart a (is_listed a) page bytes
    → b page ≡ bytes → ((n : ℕ) → n ≢ page → b n ≡ a n) → (page ≡ 1 → IsOk (header_of (take 100 bytes)))
    → AreInOrder usable count first b × ((n : ℕ) → is_listed b n ≡ is_listed a n)
put_order usable count first a b page bytes o apart put others legal =
    let stays : (n : ℕ) → 0 < times n o.listed → b n ≡ a n = λ n some. others n (λ (e : n ≡ page). ⊎_elim
    (λ (free : is_listed a n ≡ true). absurd (let both : true ≡ false = sym free ∙ ap (is_listed a) e ∙ apart.taken in cc))
    (λ (node : n ≡ list_in a). absurd (apart.unnamed (sym e ∙ node)))
    (listed_free usable count first a o n some)) in
    let alike : take 40 (b 1) ≡ take 40 (a 1) = ⊎_elim
    (λ (e : 1 ≡ page). ap (take 40) (ap b e ∙ put) ∙ apart.front (sym e))
    (λ (other : 1 ≢ page). ap (take 40) (others 1 other))
    (same_or_not 1 page) in
    let list : list_in b ≡ list_in a = number_kept 32 (b 1) (a 1) (omega arith) alike in
    let free : u32_at (b 1) 36 ≡ u32_at (a 1) 36 = number_kept 36 (b 1) (a 1) (omega arith) alike in
    keep_order usable count count first a b o stays (number_kept 28 (b 1) (a 1) (omega arith) alike ∙ o.number) (omega arith) list
    (ap (λ (m : ℕ). not (m == 0) && (u32_at (b 1) 36 == 0)) list ∙ ap (λ (m : ℕ). not (u32_at (a 1) 32 == 0) && (m == 0)) free)
    (⊎_elim
    (λ (e : 1 ≡ page). subst (λ (xs : List ℕ). IsOk (header_of (take 100 xs))) (sym (ap b e ∙ put)) (legal (sym e)))
    (λ (other : 1 ≢ page). subst (λ (xs : List ℕ). IsOk (header_of (take 100 xs))) (sym (others 1 other)) o.lists.legal)
    (same_or_not 1 page))

-- page 1 names more pages, and no other page that there was has changed
pub grown_order : (usable count later first : ℕ) (a b : Paging) → AreInOrder usable count first a → b 1 ≡ recounted later (a 1) → count ≤ later → later < 2 ^ 32
    → ((n : ℕ) → n ≢ 1 → n ≤ count → b n ≡ a n)
    → AreInOrder usable later first b × ((n : ℕ) → is_listed b n ≡ is_listed a n)
grown_order usable count later first a b o grown more small others =
    let holds = holds_from_all (IsLaterPage (number_in a)) o.listed o.lists.within in
    let stays : (n : ℕ) → 0 < times n o.listed → b n ≡ a n = λ n some. (let at = holds n some in
    others n (λ (e : n ≡ 1). absurd (omega (arith, e, at.0))) (omega (arith, at.1, o.number))) in
    let beside = beside_grown a b first later o.listed o.lists.legal grown small (omega (arith, o.number, more)) (λ n some other. stays n some) in
    keep_order usable count later first a b o stays beside.1 more beside.0.list beside.0.named beside.0.legal
