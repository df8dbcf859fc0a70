-- Marks of free lists.
use Rattle.std.proofs.Common.{◌≡◌, ◌≢◌, ℕ, zero, suc, ◌+◌, ◌*◌, ◌≤◌, List, [], ◌∷◌, ◌++◌, length, map, All, refl, sym, ap, subst, ◌∙◌, arith, true, false, ⊎_elim, length-append}
use Rattle.std.specs.Prelude.{◌==◌, nat_le}
use Rattle.std.specs.List.{flat_map}
use Rattle.std.proofs.lemmas.Bool.{and_from, and_parts, cases_Bool, eq-eqb, eqb-true, eqb-false, ne_eqb, le-leb, leb-true}
use Rattle.std.proofs.lemmas.List.{append-nil, length-map}
use Rattle.std.proofs.lemmas.List.Elements.{All-cons, All-head, All-nil, All-tail}
use Rattle.spe_model.specs.Big.{u32_at}
use Rattle.spe_model.specs.FreeList.{first_trunks, is_list_count, names_node, trunk_pages}
use Rattle.spe_model.specs.Journal.{numbers_from}
use Rattle.spe_model.specs.Paging.{Paging}
use Rattle.spe_model.specs.Standing.{AreFree, FreeChain, IsFreeChain, IsServer, IsStock, chain_of_free}
use Rattle.spe_model.specs.Verdict.{free_marks, free_pages, list_marks, node_marks, stock_marks}
use Rattle.spe_model.specs.Walk.{Keeps, trunk_marks, walk_trunks}
use Rattle.spe_verdict.proofs.MarkLemmas.{AreKept, kept-append, kept_parts, named, named-append}
use Rattle.spe_verdict.proofs.TimesLemmas.{HoldsOf, here, times-append}
use Rattle.spe_verdict.proofs.TrunkLemmas.{trunk_complete, trunk_count, trunk_named, trunk_sound, trunk_walked}

-- no page is 0
abbrev pub AreAbove : List ℕ → Type 0
AreAbove pages = HoldsOf (λ n. 1 ≤ n) pages

above_parts : (xs ys : List ℕ) → AreAbove (xs ++ ys) → AreAbove xs × AreAbove ys
above_parts xs ys above =
    ((λ n some. above n (let all = times-append n xs ys in omega arith)), (λ n some. above n (let all = times-append n xs ys in omega arith)))

-- the lists that begin at these trunks
pub record HasLists (usable count : ℕ) (pages : Paging) (node : ℕ) (firsts : List ℕ) : Type 0 where
  pub lists : List FreeChain
  pub begin : map (λ (f : FreeChain). f.first) lists ≡ firsts
  pub whole : All (IsFreeChain usable pages) lists
  pub started : All (λ (f : FreeChain). f.first ≢ 0) lists
  pub names : named (flat_map (list_marks usable count pages node) firsts) ≡ flat_map (chain_of_free pages) lists

list_first : (usable count : ℕ) (pages : Paging) (node trunk : ℕ) → AreAbove (named (list_marks usable count pages node trunk)) → (trunk == 0) ≡ false
list_first usable count pages node trunk above = ⊎_elim
    (λ (is : (trunk == 0) ≡ true).
    let zero_named : AreAbove (0 ∷ []) = rw is at above in
    let one = zero_named 0 (let at = here 0 0 [] refl in omega arith) in
    absurd (omega arith))
    (λ (is : (trunk == 0) ≡ false). is)
    (cases_Bool (trunk == 0))

list_is : (usable count : ℕ) (pages : Paging) (node trunk : ℕ) → (trunk == 0) ≡ false → list_marks usable count pages node trunk ≡ trunk_marks usable pages count node trunk
list_is usable count pages node trunk first = rw first refl

same_append : (a b c d : List ℕ) → a ≡ b → c ≡ d → a ++ c ≡ b ++ d
same_append a b c d first rest = rw (first, rest) refl

lists_sound : (usable count : ℕ) (pages : Paging) (node : ℕ) (trunks : List ℕ)
    → AreKept (flat_map (list_marks usable count pages node) trunks) → AreAbove (named (flat_map (list_marks usable count pages node) trunks))
    → length (named (flat_map (list_marks usable count pages node) trunks)) ≤ count → HasLists usable count pages node trunks
lists_sound usable count pages node [] kept above few = record { lists = []; begin = refl; whole = All-nil (IsFreeChain usable pages); started = All-nil (λ (f : FreeChain). f.first ≢ 0); names = refl }
lists_sound usable count pages node (t ∷ ts) kept above few =
    let mine = list_marks usable count pages node t in
    let others = flat_map (list_marks usable count pages node) ts in
    let split = named-append mine others in
    let both = length-append (named mine) (named others) in
    let long = ap (λ (ps : List ℕ). length ps) split in
    let parts = kept_parts mine others kept in
    let ups = above_parts (named mine) (named others) (subst AreAbove split above) in
    let first = list_first usable count pages node t ups.0 in
    let rest = lists_sound usable count pages node ts parts.1 ups.1 (omega arith) in
    let mine_kept : AreKept (trunk_marks usable pages count node t) = rw first at parts.0 in
    let mine_few : length (named (list_marks usable count pages node t)) ≤ count = omega arith in
    let trunks = trunk_sound usable pages count node t mine_kept (rw first at mine_few) in
    let chain : FreeChain = record { trunks = trunks.trunks; first = t } in
    let names : named (list_marks usable count pages node t) ≡ chain_of_free pages chain = ap named (list_is usable count pages node t first) ∙ trunk_named usable pages count node trunks.trunks t trunks.whole trunks.few in
    record {
      lists = chain ∷ rest.lists;
      begin = rw rest.begin refl;
      whole = All-cons (IsFreeChain usable pages) chain rest.lists trunks.whole rest.whole;
      started = All-cons (λ (f : FreeChain). f.first ≢ 0) chain rest.lists (eqb-false t 0 first) rest.started;
      names = split ∙ same_append (named mine) (chain_of_free pages chain) (named others) (flat_map (chain_of_free pages) rest.lists) names rest.names;
    }

chain_few : (pages : Paging) (f : FreeChain) (count : ℕ) → length (chain_of_free pages f) ≤ count → f.trunks ≤ count
chain_few pages f count few = let least = trunk_count pages f.trunks f.first in omega arith

abbrev firsts_of : List FreeChain → List ℕ
firsts_of lists = map (λ (f : FreeChain). f.first) lists

lists_complete : (usable count : ℕ) (pages : Paging) (node : ℕ) (lists : List FreeChain)
    → All (IsFreeChain usable pages) lists → All (λ (f : FreeChain). f.first ≢ 0) lists → length (flat_map (chain_of_free pages) lists) ≤ count
    → AreKept (flat_map (list_marks usable count pages node) (firsts_of lists))
    × (named (flat_map (list_marks usable count pages node) (firsts_of lists)) ≡ flat_map (chain_of_free pages) lists)
    × (flat_map (walk_trunks pages count) (firsts_of lists) ≡ flat_map (chain_of_free pages) lists)
lists_complete usable count pages node [] whole started few = (tt, refl, refl)
lists_complete usable count pages node (f ∷ fs) whole started few =
    let both = length-append (chain_of_free pages f) (flat_map (chain_of_free pages) fs) in
    let rest = lists_complete usable count pages node fs (All-tail (IsFreeChain usable pages) f fs whole) (All-tail (λ (g : FreeChain). g.first ≢ 0) f fs started) (omega arith) in
    let mine_few = chain_few pages f count (omega arith) in
    let mine = All-head (IsFreeChain usable pages) f fs whole in
    let first : (f.first == 0) ≡ false = ne_eqb f.first 0 (All-head (λ (g : FreeChain). g.first ≢ 0) f fs started) in
    let kept : AreKept (list_marks usable count pages node f.first) = rw first (trunk_complete usable pages count node f.trunks f.first mine mine_few) in
    let names : named (list_marks usable count pages node f.first) ≡ chain_of_free pages f = rw first (trunk_named usable pages count node f.trunks f.first mine mine_few) in
    let walked = trunk_walked usable pages count f.trunks f.first mine mine_few in (
      kept-append (list_marks usable count pages node f.first) (flat_map (list_marks usable count pages node) (firsts_of fs)) kept rest.0,
      named-append (list_marks usable count pages node f.first) (flat_map (list_marks usable count pages node) (firsts_of fs)) ∙ rw (names, rest.1) refl,
      rw (walked, rest.2) refl,
    )

length-numbers : (n count : ℕ) → length (numbers_from n count) ≡ count
length-numbers n zero = refl
length-numbers n (suc count) = let rest = length-numbers (n + 1) count in omega arith

length-firsts : (pages : Paging) (node : ℕ) → length (first_trunks pages node) ≡ u32_at (pages node) 0
length-firsts pages node = length-map (numbers_from 0 (u32_at (pages node) 0)) (λ i. u32_at (pages node) (4 + 4 * i)) ∙ length-numbers 0 (u32_at (pages node) 0)

lists_are_few : (n : ℕ) → is_list_count n ≡ true → (1 ≤ n) × (n ≤ 16)
lists_are_few n is = let parts = and_parts (nat_le 1 n) (nat_le n 16) is in (leb-true 1 n parts.0, leb-true n 16 parts.1)

-- free lists that the marks find
pub record HasFree (usable count : ℕ) (pages : Paging) : Type 0 where
  pub lists : List FreeChain
  pub listed : List ℕ
  pub free : AreFree usable pages lists listed
  pub names : named (free_marks usable count pages) ≡ listed

server_sound : (usable count : ℕ) (pages : Paging) → names_node (pages 1) ≡ true → AreKept (node_marks usable count pages (u32_at (pages 1) 32))
    → AreAbove (named (node_marks usable count pages (u32_at (pages 1) 32))) → length (named (node_marks usable count pages (u32_at (pages 1) 32))) ≤ count → HasFree usable count pages
server_sound usable count pages is kept above few =
    let node = u32_at (pages 1) 32 in
    let has = lists_sound usable count pages node (first_trunks pages node) kept.1
    (λ n some. above n (omega arith)) (omega arith) in
    let number = lists_are_few (u32_at (pages node) 0) kept.0 in
    let long : length has.lists ≡ u32_at (pages node) 0 = sym (length-map has.lists (λ (f : FreeChain). f.first)) ∙ ap (λ (xs : List ℕ). length xs) has.begin ∙ length-firsts pages node in
    let some = number.0 in
    let most = number.1 in
    let server : IsServer usable pages has.lists (node ∷ flat_map (chain_of_free pages) has.lists) = record {
      node = node;
      node_is = refl;
      some = omega arith;
      few = omega arith;
      firsts = has.begin;
      whole = has.whole;
      started = has.started;
      pages_are = refl;
    } in
    record { lists = has.lists; listed = node ∷ flat_map (chain_of_free pages) has.lists; free = rw is server; names = rw is (ap (λ (ps : List ℕ). node ∷ ps) has.names) }

stock_sound : (usable count : ℕ) (pages : Paging) → names_node (pages 1) ≡ false → AreKept (stock_marks usable count pages)
    → length (named (stock_marks usable count pages)) ≤ count → HasFree usable count pages
stock_sound usable count pages is kept few =
    let first = u32_at (pages 1) 32 in
    let marks = trunk_marks usable pages count 1 first in
    let last = Keeps 1 10 (length (walk_trunks pages count (u32_at (pages 1) 32)) == u32_at (pages 1) 36) ∷ [] in
    let parts = kept_parts marks last kept in
    let names : named (stock_marks usable count pages) ≡ named marks = named-append marks last ∙ append-nil (named marks) in
    let long = ap (λ (ps : List ℕ). length ps) names in
    let trunks = trunk_sound usable pages count 1 first parts.0 (omega arith) in
    let only : FreeChain = record { trunks = trunks.trunks; first = first } in
    let counted : length (chain_of_free pages only) ≡ u32_at (pages 1) 36 =
    sym (ap (λ (ps : List ℕ). length ps) (trunk_walked usable pages count trunks.trunks first trunks.whole trunks.few))
    ∙ eqb-true (length (walk_trunks pages count (u32_at (pages 1) 32))) (u32_at (pages 1) 36) parts.1.0 in
    let stock : IsStock usable pages (only ∷ []) (chain_of_free pages only) =
    record { only = only; one = refl; first = refl; whole = trunks.whole; counted = counted; pages_are = refl } in
    let all : named (stock_marks usable count pages) ≡ chain_of_free pages only = names ∙ trunk_named usable pages count 1 trunks.trunks first trunks.whole trunks.few in
    record { lists = only ∷ []; listed = chain_of_free pages only; free = rw is stock; names = rw is all }

pub free_sound : (usable count : ℕ) (pages : Paging) → AreKept (free_marks usable count pages) → AreAbove (named (free_marks usable count pages))
    → length (named (free_marks usable count pages)) ≤ count → HasFree usable count pages
free_sound usable count pages kept above few = ⊎_elim
    (λ (is : names_node (pages 1) ≡ true). server_sound usable count pages is (rw is at kept) (rw is at above) (rw is at few))
    (λ (is : names_node (pages 1) ≡ false). stock_sound usable count pages is (rw is at kept) (rw is at few))
    (cases_Bool (names_node (pages 1)))

-- what marks of free lists say, where there are such lists
pub record FreeFound (usable count : ℕ) (pages : Paging) (lists : List FreeChain) (listed : List ℕ) : Type 0 where
  pub kept : AreKept (free_marks usable count pages)
  pub names : named (free_marks usable count pages) ≡ listed
  pub pages_are : free_pages count pages ≡ flat_map (chain_of_free pages) lists

server_complete : (usable count : ℕ) (pages : Paging) (lists : List FreeChain) (listed : List ℕ) → names_node (pages 1) ≡ true
    → IsServer usable pages lists listed → length listed ≤ count → FreeFound usable count pages lists listed
server_complete usable count pages lists listed is server few =
    let node = server.node in
    let all = ap (λ (ps : List ℕ). length ps) server.pages_are in
    let has = lists_complete usable count pages node lists server.whole server.started (omega arith) in
    let long : length lists ≡ u32_at (pages node) 0 = sym (length-map lists (λ (f : FreeChain). f.first)) ∙ ap (λ (xs : List ℕ). length xs) server.firsts ∙ length-firsts pages node in
    let some = server.some in
    let most = server.few in
    let number : is_list_count (u32_at (pages node) 0) ≡ true = and_from (nat_le 1 (u32_at (pages node) 0)) (nat_le (u32_at (pages node) 0) 16)
    (le-leb 1 (u32_at (pages node) 0) (omega arith)) (le-leb (u32_at (pages node) 0) 16 (omega arith)) in
    let kept : AreKept (node_marks usable count pages node) = (number, subst (λ (ts : List ℕ). AreKept (flat_map (list_marks usable count pages node) ts)) server.firsts has.0) in
    let names : named (node_marks usable count pages node) ≡ listed =
    ap (λ (ps : List ℕ). node ∷ ps) (ap (λ (ts : List ℕ). named (flat_map (list_marks usable count pages node) ts)) (sym server.firsts) ∙ has.1) ∙ sym server.pages_are in
    let walked : flat_map (walk_trunks pages count) (first_trunks pages node) ≡ flat_map (chain_of_free pages) lists =
    ap (λ (ts : List ℕ). flat_map (walk_trunks pages count) ts) (sym server.firsts) ∙ has.2 in
    record {
      kept = rw is (subst (λ (n : ℕ). AreKept (node_marks usable count pages n)) server.node_is kept);
      names = rw is (subst (λ (n : ℕ). named (node_marks usable count pages n) ≡ listed) server.node_is names);
      pages_are = rw is (subst (λ (n : ℕ). flat_map (walk_trunks pages count) (first_trunks pages n) ≡ flat_map (chain_of_free pages) lists) server.node_is walked);
    }

stock_complete : (usable count : ℕ) (pages : Paging) (lists : List FreeChain) (listed : List ℕ) → names_node (pages 1) ≡ false
    → IsStock usable pages lists listed → length listed ≤ count → FreeFound usable count pages lists listed
stock_complete usable count pages lists listed is stock few =
    let f = stock.only in
    let all = ap (λ (ps : List ℕ). length ps) stock.pages_are in
    let mine_few = chain_few pages f count (omega arith) in
    let first = stock.first in
    let whole = subst (λ (t : ℕ). IsFreeChain usable pages (record { trunks = f.trunks; first = t })) first stock.whole in
    let same : chain_of_free pages f ≡ trunk_pages pages f.trunks (u32_at (pages 1) 32) = ap (trunk_pages pages f.trunks) first in
    let walked : walk_trunks pages count (u32_at (pages 1) 32) ≡ chain_of_free pages f =
    trunk_walked usable pages count f.trunks (u32_at (pages 1) 32) whole mine_few ∙ sym same in
    let marks = trunk_marks usable pages count 1 (u32_at (pages 1) 32) in
    let last = Keeps 1 10 (length (walk_trunks pages count (u32_at (pages 1) 32)) == u32_at (pages 1) 36) ∷ [] in
    let counted = eq-eqb (length (walk_trunks pages count (u32_at (pages 1) 32))) (u32_at (pages 1) 36) (ap (λ (ps : List ℕ). length ps) walked ∙ stock.counted) in
    let kept : AreKept (stock_marks usable count pages) = kept-append marks last (trunk_complete usable pages count 1 f.trunks (u32_at (pages 1) 32) whole mine_few) (counted, tt) in
    let names : named (stock_marks usable count pages) ≡ listed =
    named-append marks last ∙ append-nil (named marks) ∙ trunk_named usable pages count 1 f.trunks (u32_at (pages 1) 32) whole mine_few ∙ sym same ∙ sym stock.pages_are in
    let chains : flat_map (chain_of_free pages) lists ≡ chain_of_free pages f = ap (λ (fs : List FreeChain). flat_map (chain_of_free pages) fs) stock.one ∙ append-nil (chain_of_free pages f) in
    record { kept = rw is kept; names = rw is names; pages_are = rw is (walked ∙ sym chains) }

pub free_complete : (usable count : ℕ) (pages : Paging) (lists : List FreeChain) (listed : List ℕ)
    → AreFree usable pages lists listed → length listed ≤ count → FreeFound usable count pages lists listed
free_complete usable count pages lists listed free few = ⊎_elim
    (λ (is : names_node (pages 1) ≡ true). server_complete usable count pages lists listed is (rw is at free) few)
    (λ (is : names_node (pages 1) ≡ false). stock_complete usable count pages lists listed is (rw is at free) few)
    (cases_Bool (names_node (pages 1)))
