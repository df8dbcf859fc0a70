-- Where nothing is asked yet: pages that are served show themselves as served in a pager that knows page 1.
use Rattle.std.proofs.Common.{inl, inr, ◌≡◌, ◌<◌, ◌≤◌, ◌∙◌, ℕ, List, length, take, None, Option, Some, Ok, refl, sym, ap, subst, arith, ⊎_elim, true, false, unwrap_or}
use Rattle.std.specs.Prelude.{IsTrue, Bool, ◌∷◌, ◌++◌}
use Rattle.std.specs.List.{find, flat_map}
use Rattle.std.proofs.Math.Path.{fun_ext}
use Rattle.spe_model.specs.declared.header.Header.{Header}
use Rattle.spe_model.specs.declared.header.HeaderFault.{HeaderFault}
use Rattle.spe_model.specs.declared.transaction.TxKind.{TxKind}
use Rattle.spe_model.specs.Big.{u32_at}
use Rattle.spe_model.specs.Header.{faults, fields, has_fault, header_of, unless}
use Rattle.spe_model.specs.Justified.{Opening, ServedSince}
use Rattle.spe_model.specs.Paging.{Agrees, Paging}
use Rattle.spe_model.specs.Served.{usable_in}
use Rattle.spe_model.specs.Standing.{FreeChain, IsOneOf, chain_of_free}
use Rattle.spe_model.specs.Verdict.{free_pages}
use Rattle.spe_model.specs.Walk.{is_met}
use Rattle.spe_space.specs.declared.pages.Pages.{Ghosts}
use Rattle.spe_space.specs.Calls.{sight}
use Rattle.spe_space.specs.Front.{list_in, number_in}
use Rattle.spe_space.proofs.FrontLemmas.{u32_at-take}
use Rattle.spe_frame.specs.Framed.{ListsAreFree}
use Rattle.spe_frame.specs.Times.{times}
use Rattle.spe_frame.proofs.TimesLemmas.{here, holds_from_all, single_from_distinct}
use Rattle.spe_served.specs.Lists.{ListsStand}
use Rattle.spe_exec.specs.Justifying.{JustifiedIn, asked_nothing}
use Rattle.spe_session.specs.Front.{IsFrontOf}
use Rattle.spe_session.specs.Lists.{AreInOrder, is_listed}
use Rattle.spe_session.proofs.OrderLemmas.{free_is}
use Rattle.spe_session.proofs.ListLemmas.{AreThose, each_lists, own_lists, served_order, times_of}

same_header : (bytes : List ℕ) (h k : Header) → header_of bytes ≡ Ok h → header_of bytes ≡ Ok k → h ≡ k
same_header bytes h k a b = let both : Ok h ≡ Ok k = sym a ∙ b in cc

-- the number of pages of a legal header stands at 28
header_count : (bytes : List ℕ) (header : Header) → header_of bytes ≡ Ok header → header.pages ≡ u32_at bytes 28
header_count bytes header e = go (find (has_fault bytes) faults) e
  where
    go : (fault : Option HeaderFault) → unless fault (fields bytes) ≡ Ok header → header.pages ≡ u32_at bytes 28
    go None h = let k : fields bytes ≡ header = cc in ap (λ (x : Header). x.pages) (sym k)
    go (Some f) h = absurd cc

named_number : (pages : Paging) (header : Header) → header_of (take 100 (pages 1)) ≡ Ok header → number_in pages ≡ header.pages
named_number pages header legal = sym (header_count (take 100 (pages 1)) header legal ∙ u32_at-take 100 28 (pages 1) (omega arith))

-- the node is not free
node_taken : (usable count first : ℕ) (pages : Paging) (o : AreInOrder usable count first pages) → is_listed pages (list_in pages) ≡ false
unfolding is_listed
node_taken usable count first pages o = by_met (is_met (free_pages (number_in pages) pages) (list_in pages)) refl
  where
    by_met : (b : Bool) → is_met (free_pages (number_in pages) pages) (list_in pages) ≡ b → is_met (free_pages (number_in pages) pages) (list_in pages) ≡ false
    by_met false is = is
    by_met true is =
        let lists : List FreeChain = o.before ++ o.own ∷ o.after in
        let server = o.lists.whole in
        let mine : 0 < times (list_in pages) (flat_map (chain_of_free pages) lists) =
        times_of (flat_map (chain_of_free pages) lists) (list_in pages) (ap (λ (xs : List ℕ). is_met xs (list_in pages)) (sym (free_is usable pages lists o.listed o.lists)) ∙ is) in
        let all : times (list_in pages) o.listed ≡ times (list_in pages) (server.node ∷ flat_map (chain_of_free pages) lists) = ap (times (list_in pages)) server.pages_are in
        let at = here (list_in pages) server.node (flat_map (chain_of_free pages) lists) (sym server.node_is) in
        let single = single_from_distinct o.listed o.lists.distinct (list_in pages) in
        absurd (omega (arith, mine, all, at, single))

-- the same of free pages by another test
given_free : {P : Type 0} (g : Ghosts P) (s : P) (pages : Paging) → ((n : ℕ) → g.is_free s pages n ≡ is_listed (sight g s pages) n) → (lists : List FreeChain) (listed : List ℕ)
    → AreThose (g.used s) (sight g s pages) lists listed → ListsAreFree g s pages lists listed
given_free g s pages free lists listed are = record {
  whole = are.whole;
  distinct = are.distinct;
  within = are.within;
  free = λ n some. ⊎_elim (λ (f : IsTrue (is_listed (sight g s pages) n)). inl (subst IsTrue (sym (free n)) f)) (λ (e : n ≡ list_in (sight g s pages)). inr e) (are.free n some);
  listed_is = λ n f. are.listed_is n (subst IsTrue (free n) f);
  node = are.node;
}

module _ {P : Type 0} (g : Ghosts P) (first : ℕ) where
  -- a space whose free pages are those of the lists that page 1 names
  pub lists_stand : ((s : P) (pages : Paging) → g.stands s pages → AreInOrder (g.used s) (g.count s) first (sight g s pages))
      → ((s : P) (pages : Paging) (n : ℕ) → g.is_free s pages n ≡ is_listed (sight g s pages) n) → ListsStand g
  lists_stand order free s pages stood =
      let a = sight g s pages in
      let o = order s pages stood in
      record {
        lists = o.before ++ o.own ∷ o.after;
        listed = o.listed;
        are = given_free g s pages (free s pages) (o.before ++ o.own ∷ o.after) o.listed (own_lists (g.used s) (g.count s) first a o);
        each = λ lists listed whole. given_free g s pages (free s pages) lists listed (each_lists (g.used s) (g.count s) first a o lists listed whole);
      }

  module _ (opening : Opening) (s : P) where
    -- nothing was put, and the pager knows page 1
    pub started : ((n : ℕ) → g.laid s n ≡ None) → ((pages : Paging) → AreInOrder (g.used s) (g.count s) first (sight g s pages) → g.stands s pages)
        → ((pages : Paging) (n : ℕ) → g.is_free s pages n ≡ is_listed (sight g s pages) n) → 0 < times first opening.trunks → 512 ≤ g.size s
        → ((pages : Paging) → Agrees pages (g.seen s) → IsFrontOf (g.size s) (g.used s) (g.count s) (pages 1))
        → (kind : TxKind) → JustifiedIn g opening (asked_nothing kind) s
    started empty stands free some large front kind = record {
      replied = λ count pages db since agrees. refl;
      served = λ count pages db since agrees.
          let bare : pages ≡ sight g s pages = fun_ext (λ n. sym (ap (λ (o : Option (List ℕ)). unwrap_or o (pages n)) (empty n))) in
          let at = front pages agrees in
          let one = same_header (take 100 (pages 1)) since.served.header at.header since.served.front.legal at.legal in
          let number : number_in pages ≡ g.count s = named_number pages at.header at.legal ∙ at.number in
          let count_is : count ≡ g.count s = sym since.served.front.number ∙ ap (λ (h : Header). h.pages) one ∙ at.number in
          let used : usable_in since.served.header ≡ g.used s = ap usable_in one ∙ at.used in
          let o = served_order count (g.used s) first pages db since.served used (number ∙ sym count_is) (subst (λ (ts : List ℕ). 0 < times first ts) (sym since.trunks) some) in
          let mine : AreInOrder (g.used s) (g.count s) first (sight g s pages) =
          subst (λ (p : Paging). AreInOrder (g.used s) (g.count s) first p) bare (subst (λ (c : ℕ). AreInOrder (g.used s) c first pages) count_is o) in
          let those = own_lists (g.used s) (g.count s) first (sight g s pages) mine in
          let node = holds_from_all (IsOneOf (number_in (sight g s pages))) mine.listed those.within (list_in (sight g s pages)) those.node in
          let shown : (x : ServedSince opening (number_in (sight g s pages)) (sight g s pages) db) × (x.served.header.page_size ≡ g.size s) =
          subst (λ (p : Paging). (x : ServedSince opening (number_in p) p db) × (x.served.header.page_size ≡ g.size s)) bare
          (subst (λ (c : ℕ). (x : ServedSince opening c pages db) × (x.served.header.page_size ≡ g.size s)) (count_is ∙ sym number) (since, ap (λ (h : Header). h.page_size) one ∙ at.size_is)) in
          record {
            since = shown.0;
            size = shown.1;
            used = sym since.usable ∙ used;
            ready = record {
              stands = stands pages mine;
              long = subst (λ (p : Paging). 100 ≤ length (p 1)) bare (omega (arith, at.long, large));
              named = node.1;
              taken = free pages (list_in (sight g s pages)) ∙ node_taken (g.used s) (g.count s) first (sight g s pages) mine;
            };
          };
    }
