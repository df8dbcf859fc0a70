-- The pages that a walk over a tree asks for are pages of the tree and of its chains.
use Rattle.std.proofs.Common.{◌≡◌, ◌⊎◌, inl, inr, ℕ, zero, suc, ◌+◌, ◌-◌, ◌<◌, ◌≤◌, List, [], ◌∷◌, ◌++◌, map, get_or, Some, None, Result, Ok, All, refl, sym, ap, ◌∙◌, subst, arith}
use Rattle.std.specs.Prelude.{slice_index_or}
use Rattle.std.specs.List.{Contains, flat_map}
use Rattle.std.proofs.lemmas.List.{get_or_default}
use Rattle.std.proofs.lemmas.List.Elements.{All-cons, All-head, All-tail, Contains-append_cases}
use Rattle.spe_model.specs.declared.page.Kind.{Kind}
use Rattle.spe_model.specs.declared.page.Kind.TheVariants.{TableLeaf, TableInterior}
use Rattle.spe_model.specs.declared.page.Cell.{Cell}
use Rattle.spe_model.specs.declared.page.PageFault.{PageFault}
use Rattle.spe_model.specs.Chain.{AreLinks, IsChain, IsLink, link_after, link_room, links, next_page}
use Rattle.spe_model.specs.Paging.{Paging}
use Rattle.spe_model.specs.Standing.{all_pages, chain_pages, link_pages}
use Rattle.spe_model.specs.Tree.{rank, rest_of, AreRows, AreUnder, IsNode, IsTree, fan, header_end, node_cells, node_right, tree_pages, tree_rows}
use Rattle.spe_format.specs.View.{Shown}
use Rattle.spe_format.proofs.ViewLemmas.{shown_legal}
use Rattle.spe_search.specs.Found.{ShowsCell, used_of}
use Rattle.spe_space.specs.Calls.{sight}
use Rattle.spe_space.specs.Found.{misses_weaker}
use Rattle.spe_space.specs.declared.pages.Pages.{Ghosts}
use Rattle.spe_space.specs.declared.fault.TreeFault.{TreeFault}
use Rattle.spe_search.specs.Inside.{MissesTree}
use Rattle.spe_search.specs.Last.{MissesInLast, last_rank}
use Rattle.spe_search.specs.Range.{IsOverflowBetween, MissesInRange, touched_pages}
use Rattle.spe_search.proofs.FoundLemmas.{no_leaf}
use Rattle.spe_search.proofs.TouchedLemmas.{touched_in_tree}

pub all_front : (P : ℕ → Type 0) (xs ys : List ℕ) → All P (xs ++ ys) → All P xs
all_front P [] ys all = λ k d lt. absurd (omega (arith, lt))
all_front P (x ∷ xs) ys all = All-cons P x xs (All-head P x (xs ++ ys) all) (all_front P xs ys (All-tail P x (xs ++ ys) all))

pub all_behind : (P : ℕ → Type 0) (xs ys : List ℕ) → All P (xs ++ ys) → All P ys
all_behind P [] ys all = all
all_behind P (x ∷ xs) ys all = all_behind P xs ys (All-tail P x (xs ++ ys) all)

-- the links after the first
link_next : (usable : ℕ) (pages : Paging) (count left page : ℕ)
    → link_after usable pages (suc count) left page ≡ link_after usable pages count (left - link_room usable) (next_page pages page)
link_next usable pages zero left page = refl
link_next usable pages (suc count) left page =
    ap (λ (x : ℕ × ℕ). (x.0 - link_room usable, next_page pages x.1)) (link_next usable pages count left page)

link_fewer : (usable : ℕ) (pages : Paging) (count left page : ℕ) → (link_after usable pages count left page).0 ≤ left
link_fewer usable pages zero left page = omega arith
link_fewer usable pages (suc count) left page = let fewer = link_fewer usable pages count left page in omega (arith, fewer)

link_inside : (P : ℕ → Type 0) (usable : ℕ) (pages : Paging) (links left page count : ℕ) → AreLinks usable pages links left page → 0 < (link_after usable pages count left page).0
    → All P (link_pages pages links page) → P (link_after usable pages count left page).1
link_inside P usable pages zero left page count are some all =
    let fewer = link_fewer usable pages count left page in
    let none = are.0 in
    absurd (omega (arith, fewer, none, some))
link_inside P usable pages (suc links) left page zero are some all = All-head P page _ all
link_inside P usable pages (suc links) left page (suc count) are some all =
    let next = link_next usable pages count left page in
    subst (λ (x : ℕ × ℕ). P x.1) (sym next)
    (link_inside P usable pages links (left - link_room usable) (next_page pages page) count are.2 (subst (λ (x : ℕ × ℕ). 0 < x.0) next some) (All-tail P page _ all))

-- a page of the chain of a cell
over_inside : (P : ℕ → Type 0) (usable : ℕ) (pages : Paging) (c : Cell) (at : ℕ) → IsChain usable pages (rest_of c) c.chain → IsLink usable pages (rest_of c) c.chain at
    → All P (chain_pages usable pages c) → P at
over_inside P usable pages c at chain link all = subst P link.place (link_inside P usable pages (links usable (rest_of c)) (rest_of c) c.chain link.count chain link.some all)

abbrev is_at : List Cell → ℕ → Cell → Type 0
is_at cells index c = slice_index_or (map Some cells) index None ≡ Some c

some_is : (a b : Cell) → Some a ≡ Some b → a ≡ b
some_is a b e = cc

-- the chain of a row of a leaf
pub row_over : (P : ℕ → Type 0) (usable : ℕ) (pages : Paging) (low high : ℕ) (cells : List Cell) (index : ℕ) (c : Cell) (at : ℕ) → AreRows usable pages low high cells → is_at cells index c
    → IsLink usable pages (rest_of c) c.chain at → All P (flat_map (chain_pages usable pages) cells) → P at
row_over P usable pages low high [] index c at are is link all = absurd cc
row_over P usable pages low high (x ∷ xs) zero c at are is link all =
    let same = some_is x c is in
    over_inside P usable pages c at (subst (λ (d : Cell). IsChain usable pages (rest_of d) d.chain) same are.2) link
    (subst (λ (d : Cell). All P (chain_pages usable pages d)) same (all_front P (chain_pages usable pages x) _ all))
row_over P usable pages low high (x ∷ xs) (suc index) c at are is link all =
    row_over P usable pages (rank x.key + 1) high xs index c at are.3 is link (all_behind P (chain_pages usable pages x) _ all)

pub ok_is : (a b : Shown) (r : Result Shown PageFault) → r ≡ Ok a → r ≡ Ok b → a ≡ b
ok_is a b r e f = let both : Ok a ≡ Ok b = sym e ∙ f in cc

-- what a legal page shows is one of its cells
shown_is : (kind : Kind) (usable : ℕ) (pages : Paging) (page : ℕ) (c : Cell) → IsNode kind usable pages page → (shows : ShowsCell usable pages page c)
    → is_at (node_cells usable pages page) shows.has.index c
shown_is kind usable pages page c node shows =
    let legal = shown_legal (used_of usable pages page) (header_end page) _ node in
    let same = ok_is _ shows.shown _ legal shows.is in
    subst (λ (s : Shown). slice_index_or s.cells shows.has.index None ≡ Some c) (sym same) shows.has.is

shown_kind : (kind : Kind) (usable : ℕ) (pages : Paging) (page : ℕ) (c : Cell) → IsNode kind usable pages page → (shows : ShowsCell usable pages page c) → shows.shown.kind ≡ kind
shown_kind kind usable pages page c node shows =
    let legal = shown_legal (used_of usable pages page) (header_end page) _ node in
    ap (λ (s : Shown). s.kind) (ok_is shows.shown _ _ shows.is legal)

-- the page is such, and so is each of the chains of the rows of a leaf
record IsWhole (P : ℕ → Type 0) (usable : ℕ) (pages : Paging) (page : ℕ) : Type 0 where
  own : P page
  over : (c : Cell) (at : ℕ) (shows : ShowsCell usable pages page c) → shows.shown.kind ≡ TableLeaf → IsLink usable pages (rest_of c) c.chain at → P at

fan_whole : (T : ℕ → ℕ → ℕ → Type 0) (own whole : ℕ → List ℕ) (P Q : ℕ → Type 0) → ((low high page n : ℕ) → T low high page → All P (whole page) → Contains (own page) n → Q n)
    → (low high : ℕ) (cells : List Cell) (right n : ℕ) → AreUnder T low high cells right → All P (fan whole cells right) → Contains (fan own cells right) n → Q n
fan_whole T own whole P Q each low high [] right n under all has = each low high right n under all has
fan_whole T own whole P Q each low high (c ∷ cs) right n under all has = elim (Contains-append_cases (own c.left) (fan own cs right) n has) [
  | inl here ↦ each low (rank c.key + 1) c.left n under.2 (all_front P (whole c.left) (fan whole cs right) all) here
  | inr later ↦ fan_whole T own whole P Q each (rank c.key + 1) high cs right n under.3 (all_behind P (whole c.left) (fan whole cs right) all) later
]

leaf_whole : (P : ℕ → Type 0) (usable : ℕ) (pages : Paging) (low high page : ℕ) → IsTree usable pages zero low high page → All P (all_pages usable pages zero page)
    → IsWhole P usable pages page
leaf_whole P usable pages low high page tree all = record {
  own = All-head P page _ all;
  over = λ c at shows kind link.
      row_over P usable pages low high (node_cells usable pages page) shows.has.index c at tree.1 (shown_is TableLeaf usable pages page c tree.0 shows) link (All-tail P page _ all);
}

node_whole : (P : ℕ → Type 0) (usable : ℕ) (pages : Paging) (page : ℕ) → IsNode TableInterior usable pages page → P page → IsWhole P usable pages page
node_whole P usable pages page node own = record {
  own = own;
  over = λ c at shows kind link. absurd (no_leaf (sym (shown_kind TableInterior usable pages page c node shows) ∙ kind));
}

only_one : (page n : ℕ) → Contains (page ∷ []) n → page ≡ n
only_one page n (zero, lt, is) = is
only_one page n (suc k, lt, is) = absurd (omega (arith, lt))

-- all pages of a tree are such
tree_whole : (P : ℕ → Type 0) (usable : ℕ) (pages : Paging) (height low high page n : ℕ) → IsTree usable pages height low high page → All P (all_pages usable pages height page)
    → Contains (tree_pages usable pages height page) n → IsWhole P usable pages n
tree_whole P usable pages zero low high page n tree all has =
    subst (IsWhole P usable pages) (only_one page n has) (leaf_whole P usable pages low high page tree all)
tree_whole P usable pages (suc height) low high page n tree all has =
    let cells = node_cells usable pages page in
    let right = node_right usable pages page in
    elim (Contains-append_cases (page ∷ []) (fan (tree_pages usable pages height) cells right) n has) [
      | inl here ↦ subst (IsWhole P usable pages) (only_one page n here) (node_whole P usable pages page tree.0 (All-head P page _ all))
      | inr below ↦ fan_whole (IsTree usable pages height) (tree_pages usable pages height) (all_pages usable pages height) P (IsWhole P usable pages)
          (λ a b p m t every own. tree_whole P usable pages height a b p m t every own) low high cells right n tree.1
          (all_behind P (flat_map (chain_pages usable pages) cells) (fan (all_pages usable pages height) cells right) (All-tail P page _ all)) below
    ]

-- a page of the tree
pub tree_inside : (P : ℕ → Type 0) (usable : ℕ) (pages : Paging) (height low high page n : ℕ) → IsTree usable pages height low high page → All P (all_pages usable pages height page)
    → Contains (tree_pages usable pages height page) n → P n
tree_inside P usable pages height low high page n tree all has = (tree_whole P usable pages height low high page n tree all has).own

-- a page that two rowids touch
pub touched_inside : (P : ℕ → Type 0) (usable : ℕ) (pages : Paging) (from to height low high page n : ℕ) → IsTree usable pages height low high page → All P (all_pages usable pages height page)
    → Contains (touched_pages usable pages from to height page) n → P n
touched_inside P usable pages from to height low high page n tree all has =
    tree_inside P usable pages height low high page n tree all (touched_in_tree usable pages from to height page n has)

-- an overflow page of a row between them
pub between_inside : (P : ℕ → Type 0) (usable : ℕ) (pages : Paging) (from to height low high page n : ℕ) → IsTree usable pages height low high page → All P (all_pages usable pages height page)
    → IsOverflowBetween usable pages from to height page n → P n
between_inside P usable pages from to height low high page n tree all over =
    (tree_whole P usable pages height low high page over.leaf tree all (touched_in_tree usable pages from to height page over.leaf over.inside)).over over.row n over.shown over.kind over.link

pub own_all : (xs : List ℕ) → All (Contains xs) xs
own_all xs k d within = (k, within, get_or_default xs k (get_or xs k d) d within)

-- where the tree stands, a page that a walk between two rowids asks for is one of its pages or its chains
pub misses_tree : {P X : Type 0} (g : Ghosts P) (early late : P) (root low high : ℕ) (result : Result X TreeFault) → MissesInRange g early late root low high result → MissesTree g early late root result
misses_tree g early late root low high result misses pages agrees height tree =
    let usable = g.used early in
    let view = sight g early pages in
    let all = all_pages usable view height root in
    misses_weaker (λ at. Contains (touched_pages usable view low high height root) at ⊎ ((0 < at) × IsOverflowBetween usable view low high height root at)) (Contains all) result
    (λ n asked. elim asked [
      | inl own ↦ touched_inside (Contains all) usable view low high height 0 18446744073709551616 root n tree.1 (own_all all) own
      | inr over ↦ between_inside (Contains all) usable view low high height 0 18446744073709551616 root n tree.1 (own_all all) over.1
    ])
    (misses pages agrees height 0 18446744073709551616 tree.1)

-- the same of a walk to the last row
pub misses_last : {P X : Type 0} (g : Ghosts P) (early late : P) (root : ℕ) (result : Result X TreeFault) → MissesInLast g early late root result → MissesTree g early late root result
misses_last g early late root result misses pages agrees height tree =
    let usable = g.used early in
    let view = sight g early pages in
    let all = all_pages usable view height root in
    let from = last_rank 0 (tree_rows usable view height root) in
    misses_weaker (Contains (touched_pages usable view from 18446744073709551616 height root)) (Contains all) result
    (λ n own. touched_inside (Contains all) usable view from 18446744073709551616 height 0 18446744073709551616 root n tree.1 (own_all all) own)
    (misses pages agrees height tree)
