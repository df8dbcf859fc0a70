-- The free pages of a pager are those of the lists that page 1 names, and served pages have such lists.
use Rattle.std.proofs.Common.{inl, inr, ◌≡◌, ◌≢◌, ◌⊎◌, ◌+◌, ◌<◌, ◌≤◌, ◌∙◌, ℕ, zero, suc, List, [], ◌∷◌, ◌++◌, take, map, All, refl, sym, ap, subst, arith, ⊎_elim, true}
use Rattle.std.specs.Prelude.{◌==◌, Bool, IsOk, IsTrue}
use Rattle.std.specs.List.{flat_map}
use Rattle.std.proofs.lemmas.List.Elements.{All-head, All-tail}
use Rattle.std.proofs.lemmas.Bool.{eqb-true, or_cases}
use Rattle.spe_model.specs.Big.{u32_at}
use Rattle.spe_model.specs.Database.{Database}
use Rattle.spe_model.specs.FreeList.{first_trunks, names_node}
use Rattle.spe_model.specs.Header.{header_of}
use Rattle.spe_model.specs.Paging.{Paging}
use Rattle.spe_model.specs.Served.{Served, usable_in}
use Rattle.spe_model.specs.Standing.{AreDistinct, AreFree, FreeChain, IsFreeChain, IsOneOf, IsServer, IsStock, StandsFor, Whether, all_pages, chain_of_free, chain_pages, pages_of_some}
use Rattle.spe_model.specs.Tree.{fan, node_cells, node_right}
use Rattle.spe_model.specs.Verdict.{free_pages}
use Rattle.spe_model.specs.Walk.{is_met}
use Rattle.spe_space.specs.Free.{IsLaterPage}
use Rattle.spe_space.specs.Front.{list_in, number_in}
use Rattle.spe_frame.specs.Times.{AreSingle, times}
use Rattle.spe_frame.proofs.TimesLemmas.{all_from_holds, distinct_from_single, here, holds_from_all, same_or_not, single_from_distinct, there, times-append}
use Rattle.spe_verdict.proofs.TrunkLemmas.{trunks_same}
use Rattle.spe_freelist.specs.Place.{AreLists}
use Rattle.spe_session.specs.Lists.{AreInOrder, is_listed}
use Rattle.spe_session.proofs.OrderLemmas.{free_is, listed_free}

-- a list is known by its first trunk
chain_same : (usable : ℕ) (pages : Paging) (f g : FreeChain) → f.first ≡ g.first → IsFreeChain usable pages f → IsFreeChain usable pages g → f ≡ g
chain_same usable pages f g first whole other =
    let count : f.trunks ≡ g.trunks = trunks_same usable pages f.trunks g.trunks g.first (subst (λ (t : ℕ). IsFreeChain usable pages (record { trunks = f.trunks; first = t })) first whole) other in
    let one : f ≡ record { trunks = g.trunks; first = f.first } = ap (λ (n : ℕ). record { trunks = n; first = f.first }) count in
    one ∙ ap (λ (n : ℕ). record { trunks = g.trunks; first = n }) first

pub lists_same : (usable : ℕ) (pages : Paging) (fs gs : List FreeChain) → map (λ (f : FreeChain). f.first) fs ≡ map (λ (f : FreeChain). f.first) gs
    → All (IsFreeChain usable pages) fs → All (IsFreeChain usable pages) gs → fs ≡ gs
lists_same usable pages [] [] same whole other = refl
lists_same usable pages [] (g ∷ gs) same whole other = absurd cc
lists_same usable pages (f ∷ fs) [] same whole other = absurd cc
lists_same usable pages (f ∷ fs) (g ∷ gs) same whole other =
    let first : f.first ≡ g.first = cc in
    let rest : map (λ (h : FreeChain). h.first) fs ≡ map (λ (h : FreeChain). h.first) gs = cc in
    let one = chain_same usable pages f g first (All-head (IsFreeChain usable pages) f fs whole) (All-head (IsFreeChain usable pages) g gs other) in
    let more = lists_same usable pages fs gs rest (All-tail (IsFreeChain usable pages) f fs whole) (All-tail (IsFreeChain usable pages) g gs other) in
    ap (λ (h : FreeChain). h ∷ fs) one ∙ ap (λ (hs : List FreeChain). g ∷ hs) more

pub times_of : (xs : List ℕ) (n : ℕ) → is_met xs n ≡ true → 0 < times n xs
times_of [] n met = absurd cc
times_of (x ∷ xs) n met = ⊎_elim
    (λ (h : (x == n) ≡ true). let at = here n x xs (sym (eqb-true x n h)) in omega (arith, at))
    (λ (t : is_met xs n ≡ true). let rest = times_of xs n t in omega arith)
    (or_cases (x == n) (is_met xs n) met)

-- a free page is one of the lists'
pub met_listed : (usable : ℕ) (pages : Paging) (lists : List FreeChain) (listed : List ℕ) → AreLists usable pages lists listed → (n : ℕ) → IsTrue (is_listed pages n) → 0 < times n listed
unfolding is_listed
met_listed usable pages lists listed are n free =
    let server = are.whole in
    let all : times n listed ≡ times n (server.node ∷ flat_map (chain_of_free pages) lists) = ap (times n) server.pages_are in
    let met : is_met (free_pages (number_in pages) pages) n ≡ true = free in
    let mine : 0 < times n (flat_map (chain_of_free pages) lists) = times_of (flat_map (chain_of_free pages) lists) n (ap (λ (xs : List ℕ). is_met xs n) (sym (free_is usable pages lists listed are)) ∙ met) in
    ⊎_elim
    (λ (e : n ≡ server.node). let at = here n server.node (flat_map (chain_of_free pages) lists) e in omega (arith, all, at))
    (λ (other : n ≢ server.node). let at = there n server.node (flat_map (chain_of_free pages) lists) other in omega (arith, all, at, mine))
    (same_or_not n server.node)

-- all that page 1's lists say of free pages, of pages in order
pub record AreThose (usable : ℕ) (pages : Paging) (lists : List FreeChain) (listed : List ℕ) : Type 0 where
  pub whole : AreFree usable pages lists listed
  pub distinct : AreDistinct listed
  pub within : All (IsOneOf (number_in pages)) listed
  pub free : (n : ℕ) → 0 < times n listed → IsTrue (is_listed pages n) ⊎ (n ≡ list_in pages)
  pub listed_is : (n : ℕ) → IsTrue (is_listed pages n) → 0 < times n listed
  pub node : 0 < times (list_in pages) listed

in_server : (usable : ℕ) (pages : Paging) (lists : List FreeChain) (listed : List ℕ) → names_node (pages 1) ≡ true → IsServer usable pages lists listed → AreFree usable pages lists listed
in_server usable pages lists listed named server = subst (λ (b : Bool). Whether b (IsServer usable pages lists listed) (IsStock usable pages lists listed)) (sym named) server

as_server : (usable : ℕ) (pages : Paging) (lists : List FreeChain) (listed : List ℕ) → names_node (pages 1) ≡ true → AreFree usable pages lists listed → IsServer usable pages lists listed
as_server usable pages lists listed named free = subst (λ (b : Bool). Whether b (IsServer usable pages lists listed) (IsStock usable pages lists listed)) named free

pub own_lists : (usable count first : ℕ) (pages : Paging) (o : AreInOrder usable count first pages) → AreThose usable pages (o.before ++ o.own ∷ o.after) o.listed
unfolding is_listed
own_lists usable count first pages o =
    let lists : List FreeChain = o.before ++ o.own ∷ o.after in
    let server = o.lists.whole in
    let holds = holds_from_all (IsLaterPage (number_in pages)) o.listed o.lists.within in
    let all : (n : ℕ) → times n o.listed ≡ times n (server.node ∷ flat_map (chain_of_free pages) lists) = λ n. ap (times n) server.pages_are in
    record {
      whole = in_server usable pages lists o.listed o.lists.named server;
      distinct = o.lists.distinct;
      within = all_from_holds (IsOneOf (number_in pages)) o.listed (λ n some. (omega (arith, (holds n some).0), (holds n some).1));
      free = λ n some. ⊎_elim (λ (e : is_listed pages n ≡ true). inl (subst IsTrue (sym e) refl)) (λ (e : n ≡ list_in pages). inr e) (listed_free usable count first pages o n some);
      listed_is = met_listed usable pages lists o.listed o.lists;
      node = let at = here (list_in pages) server.node (flat_map (chain_of_free pages) lists) (sym server.node_is) in omega (arith, all (list_in pages), at);
    }

-- whichever lists page 1 names are these
pub each_lists : (usable count first : ℕ) (pages : Paging) (o : AreInOrder usable count first pages) (lists : List FreeChain) (listed : List ℕ) → AreFree usable pages lists listed
    → AreThose usable pages lists listed
each_lists usable count first pages o lists listed free =
    let mine : List FreeChain = o.before ++ o.own ∷ o.after in
    let server = o.lists.whole in
    let other = as_server usable pages lists listed o.lists.named free in
    let node : server.node ≡ other.node = server.node_is ∙ sym other.node_is in
    let firsts : map (λ (f : FreeChain). f.first) mine ≡ map (λ (f : FreeChain). f.first) lists = server.firsts ∙ ap (first_trunks pages) node ∙ sym other.firsts in
    let same = lists_same usable pages mine lists firsts server.whole other.whole in
    let pages_same : o.listed ≡ listed =
    server.pages_are ∙ ap (λ (n : ℕ). n ∷ flat_map (chain_of_free pages) mine) node ∙ ap (λ (ls : List FreeChain). other.node ∷ flat_map (chain_of_free pages) ls) same ∙ sym other.pages_are in
    subst (λ (ls : List FreeChain). AreThose usable pages ls listed) same
    (subst (λ (ns : List ℕ). AreThose usable pages mine ns) pages_same (own_lists usable count first pages o))

-- a list among others
record IsAmong (lists : List FreeChain) (first : ℕ) : Type 0 where
  before : List FreeChain
  own : FreeChain
  after : List FreeChain
  split : lists ≡ before ++ own ∷ after
  first_is : own.first ≡ first

among : (lists : List FreeChain) (first : ℕ) → 0 < times first (map (λ (f : FreeChain). f.first) lists) → IsAmong lists first
among [] first some = absurd (omega (arith, some))
among (f ∷ fs) first some = ⊎_elim
    (λ (e : first ≡ f.first). record { before = []; own = f; after = fs; split = refl; first_is = sym e })
    (λ (other : first ≢ f.first).
    let at = there first f.first (map (λ (g : FreeChain). g.first) fs) other in
    let rest = among fs first (omega (arith, at, some)) in
    record { before = f ∷ rest.before; own = rest.own; after = rest.after; split = ap (λ (gs : List FreeChain). f ∷ gs) rest.split; first_is = rest.first_is })
    (same_or_not first f.first)

first_there : (usable : ℕ) (pages : Paging) (height page : ℕ) → 1 ≤ times page (all_pages usable pages height page)
first_there usable pages zero page = let at = here page page (flat_map (chain_pages usable pages) (node_cells usable pages page)) refl in omega (arith, at)
first_there usable pages (suc h) page =
    let at = here page page (flat_map (chain_pages usable pages) (node_cells usable pages page) ++ fan (all_pages usable pages h) (node_cells usable pages page) (node_right usable pages page)) refl in
    omega (arith, at)

pub legal_of : (count : ℕ) (pages : Paging) (db : Database) (served : Served count pages db) → IsOk (header_of (take 100 (pages 1)))
legal_of count pages db served = subst IsOk (sym served.front.legal) refl

-- served pages are in order, from the list of one of the first trunks
pub served_order : (count usable first : ℕ) (pages : Paging) (db : Database) (served : Served count pages db) → usable_in served.header ≡ usable → number_in pages ≡ count
    → 0 < times first (first_trunks pages (u32_at (pages 1) 32)) → AreInOrder usable count first pages
served_order count usable first pages db served used number some =
    let stands : StandsFor usable count pages db = subst (λ (u : ℕ). StandsFor u count pages db) used served.stands in
    let server = as_server usable pages stands.lists stands.listed served.prepared.0 stands.free in
    let firsts : map (λ (f : FreeChain). f.first) stands.lists ≡ first_trunks pages (u32_at (pages 1) 32) = server.firsts ∙ ap (first_trunks pages) server.node_is in
    let at = among stands.lists first (subst (λ (ns : List ℕ). 0 < times first ns) (sym firsts) some) in
    let trees = all_pages usable pages stands.height 1 ++ flat_map (pages_of_some usable pages) stands.trees in
    let single : AreSingle (trees ++ stands.listed) = single_from_distinct (trees ++ stands.listed) stands.distinct in
    let inside = holds_from_all (IsOneOf count) (trees ++ stands.listed) stands.within in
    let split : (n : ℕ) → times n (trees ++ stands.listed) ≡ times n trees + times n stands.listed = λ n. times-append n trees stands.listed in
    let front : 1 ≤ times 1 trees = let a = first_there usable pages stands.height 1 in let b = times-append 1 (all_pages usable pages stands.height 1) (flat_map (pages_of_some usable pages) stands.trees) in omega (arith, a, b) in
    let later : (n : ℕ) → 0 < times n stands.listed → IsLaterPage (number_in pages) n = λ n is.
    let where_ = inside n (omega (arith, split n, is)) in ⊎_elim
    (λ (e : n ≡ 1). let is1 : 0 < times 1 stands.listed = subst (λ (m : ℕ). 0 < times m stands.listed) e is in absurd (omega (arith, single 1, split 1, front, is1)))
    (λ (other : n ≢ 1). (omega (arith, where_.0, other), omega (arith, where_.1, number)))
    (same_or_not n 1) in
    let lists : AreLists usable pages stands.lists stands.listed = record {
      legal = legal_of count pages db served;
      named = served.prepared.0;
      whole = server;
      distinct = distinct_from_single stands.listed (λ n. omega (arith, single n, split n));
      within = all_from_holds (IsLaterPage (number_in pages)) stands.listed later;
    } in
    order_of usable count first pages stands.lists stands.listed at number lists later
  where
    order_of : (usable count first : ℕ) (pages : Paging) (all : List FreeChain) (listed : List ℕ) → (at : IsAmong all first) → number_in pages ≡ count → (lists : AreLists usable pages all listed)
        → ((n : ℕ) → 0 < times n listed → IsLaterPage (number_in pages) n) → AreInOrder usable count first pages
    order_of usable count first pages all listed at number lists later =
        let mine : AreLists usable pages (at.before ++ at.own ∷ at.after) listed = subst (λ (ls : List FreeChain). AreLists usable pages ls listed) at.split lists in
        record {
          number = number;
          before = at.before;
          own = at.own;
          after = at.after;
          listed = listed;
          first_is = at.first_is;
          lists = mine;
          later = λ n free. later n (met_listed usable pages (at.before ++ at.own ∷ at.after) listed mine n free);
        }
