-- A walk over a tree that gathers its leaves.
use Rattle.std.proofs.Common.{◌≡◌, ◌⊎◌, ℕ, zero, suc, ◌+◌, ◌-◌, ◌<◌, ◌≤◌, ◌∙◌, Bool, true, false, List, [], ◌∷◌, ◌++◌, Result, Ok, Err, take, drop, length, get_or, refl, sym, ap, subst, arith, append_assoc, inl, inr}
use Rattle.std.specs.List.{flat_map}
use Rattle.std.proofs.lemmas.List.{append-nil, take_all}
use Rattle.spe_model.specs.declared.page.Cell.{Cell}
use Rattle.spe_model.specs.declared.page.Kind.{Kind}
use Rattle.spe_model.specs.declared.page.Kind.TheVariants.{IndexInterior, IndexLeaf, TableInterior, TableLeaf}
use Rattle.spe_model.specs.declared.page.PageCells.{PageCells}
use Rattle.spe_model.specs.Paging.{Paging}
use Rattle.spe_model.specs.Standing.{all_pages, chain_pages}
use Rattle.spe_model.specs.Tree.{IsTree, cells_in, fan, node_at, node_cells, node_right, rank, right_in, tree_pages}
use Rattle.spe_format.specs.Canonical.{AreWritable, IsWritable}
use Rattle.spe_space.specs.declared.pages.Pages.{Ghosts}
use Rattle.spe_space.specs.declared.fault.TreeFault.{TreeFault}
use Rattle.spe_space.specs.declared.fault.TreeFault.TheVariants.{Corrupt, Space}
use Rattle.spe_space.specs.Calls.{Reads, RefusesTree, sight}
use Rattle.spe_space.specs.Outcome.{refusal_of}
use Rattle.spe_frame.specs.Held.{AreHeld, IsReady, Shifts}
use Rattle.spe_frame.specs.Times.{AreSame, HoldsOf, Lacks, times}
use Rattle.spe_frame.proofs.TimesLemmas.{same_or_not, there, times-append}
use Rattle.spe_frame.proofs.TreeLemmas.{lower_pages}
use Rattle.spe_cut.specs.Joined.{cells_below, cells_under, nodes_in}
use Rattle.spe_cut.specs.Parts.{need}
use Rattle.spe_cut.specs.Run.{IsRun, Run, pages_in}
use Rattle.spe_cut.proofs.HolderLemmas.{Reading}
use Rattle.spe_cut.proofs.NeedLemmas.{need_append}
use Rattle.spe_insert.specs.Laws.{HaveLaws}
use Rattle.spe_delete.specs.declared.leaves.Leaves.{Leaves}
use Rattle.spe_delete.specs.Leaves.{AreWhole, Gains, GathersRun, GathersTree, IsHeldRun, IsHeldTree, SeesRun, SeesTree, StaysSound, run_with}
use Rattle.spe_delete.proofs.BelowLemmas.{is_so, was_so}
use Rattle.spe_delete.proofs.JoinLemmas.{one_held, page_seen}

-- the first of some cells, and the others
pub cell_off : (left : List Cell) (cell : Cell) → 1 ≤ length left → cell ≡ get_or left 0 cell → left ≡ cell ∷ take (length left - 1) (drop 1 left)
cell_off [] cell some is = absurd (omega (arith, some))
cell_off (x ∷ xs) cell some is = ap (λ (y : Cell). y ∷ xs) (sym is) ∙ ap (λ (ys : List Cell). cell ∷ ys) (sym (take_all (length (x ∷ xs) - 1) xs (omega arith)))

pub none_left : (left : List Cell) → length left < 1 → left ≡ []
none_left [] none = refl
none_left (x ∷ xs) none = absurd (omega (arith, none))

pub refuses_then : {P X : Type 0} (g : Ghosts P) (s a b : P) (r : Result X TreeFault) → g.refusal a ≡ g.refusal s → RefusesTree g a b r → RefusesTree g s b r
refuses_then g s a b (Ok x) same is = is ∙ same
refuses_then g s a b (Err (Space f)) same is = is ∙ ap (refusal_of f) same
refuses_then g s a b (Err (Corrupt page)) same is = is ∙ same

-- some of the pages at hand
module _ {P : Type 0} (g : Ghosts P) (laws : HaveLaws g) (s a : P) (pages : Paging) (own mine rest : List ℕ) (parts : AreSame own (mine ++ rest)) (seen : Shifts g s a pages own own 0) where
  apart : Shifts g s a pages own (mine ++ rest) 0
  apart = laws.alike s a pages own own own (mine ++ rest) 0 (λ n. refl) parts seen

  pub part_held : AreHeld g s pages own → AreHeld g a pages mine
  part_held held = (laws.apart a pages mine rest (apart.held held)).0

  pub part_later : Lacks own 1 → Lacks mine 1
  part_later later = let none = apart.front later in omega (arith, none, times-append 1 mine rest)

  pub part_seen : (b : P) → Shifts g a b pages mine mine 0 → Shifts g s b pages own own 0
  part_seen b next =
      laws.alike s b pages own (mine ++ rest) own own 0 (λ n. refl) (λ n. sym (parts n))
      (laws.both s a b pages own (mine ++ rest) (mine ++ rest) 0 0 apart (laws.beside a b pages mine mine rest 0 next))

-- a page before the others of its tree
all_first : (usable : ℕ) (pages : Paging) (height page : ℕ) → all_pages usable pages height page ≡ page ∷ lower_pages usable pages height page
all_first usable pages zero page = refl
all_first usable pages (suc h) page = refl

first_same : (usable : ℕ) (pages : Paging) (height page : ℕ) → AreSame (all_pages usable pages height page) (page ∷ lower_pages usable pages height page)
first_same usable pages height page n = ap (times n) (all_first usable pages height page)

pub tree_got : {P : Type 0} (g : Ghosts P) → HaveLaws g → (s a : P) (pages : Paging) (height low high page : ℕ) → IsHeldTree g s pages height low high page
    → (IsReady g s pages → AreHeld g s pages (page ∷ []) → Shifts g s a pages (page ∷ []) (page ∷ []) 0) → SeesTree g s a pages height page
tree_got g laws s a pages height low high page is seen =
    page_seen g laws s a pages (all_pages (g.used s) (sight g s pages) height page) page (lower_pages (g.used s) (sight g s pages) height page)
    (first_same (g.used s) (sight g s pages) height page) is.ready is.held seen

pub top_held : {P : Type 0} (g : Ghosts P) → HaveLaws g → (s : P) (pages : Paging) (height low high page : ℕ) → IsHeldTree g s pages height low high page → AreHeld g s pages (page ∷ [])
top_held g laws s pages height low high page is =
    one_held g laws s pages (all_pages (g.used s) (sight g s pages) height page) page (lower_pages (g.used s) (sight g s pages) height page)
    (first_same (g.used s) (sight g s pages) height page) is.ready is.held

abbrev node_of : Kind → List Cell → ℕ → PageCells
node_of kind cells right = record { kind = kind; cells = cells; right = right }

abbrev kind_of : Reading → Kind
kind_of (Ok node) = node.kind
kind_of r = TableLeaf

abbrev run_in : Reading → Run
run_in r = run_with (cells_in r) (right_in r)

no_leaf : TableInterior ≡ TableLeaf → ⊥
no_leaf e = cc

no_interior : TableLeaf ≡ TableInterior → ⊥
no_interior e = cc

-- the legal page under which a tree stands
pub record HasNode (usable : ℕ) (pages : Paging) (page : ℕ) : Type 0 where
  pub node : PageCells
  pub is : node_at usable pages page ≡ Ok node

pub tree_node : (usable : ℕ) (pages : Paging) (height low high page : ℕ) → IsTree usable pages height low high page → HasNode usable pages page
tree_node usable pages zero low high page tree = record { node = _; is = tree.0 }
tree_node usable pages (suc h) low high page tree = record { node = _; is = tree.0 }

-- a page that was read as a leaf is one, and one that was read as an interior page is one
pub leaf_there : (usable : ℕ) (pages : Paging) (low high page : ℕ) (node : PageCells) (Q : ℕ → Type 0) (height : ℕ) → node_at usable pages page ≡ Ok node → node.kind ≡ TableLeaf
    → IsTree usable pages height low high page → Q 0 → Q height
leaf_there usable pages low high page node Q zero is kind tree go = go
leaf_there usable pages low high page node Q (suc h) is kind tree go = absurd (no_leaf (ap kind_of (sym tree.0 ∙ is) ∙ kind))

pub interior_there : (usable : ℕ) (pages : Paging) (low high page : ℕ) (node : PageCells) (Q : ℕ → Type 0) (height : ℕ) → node_at usable pages page ≡ Ok node → node.kind ≡ TableInterior
    → IsTree usable pages height low high page → ((h : ℕ) → height ≡ suc h → IsTree usable pages (suc h) low high page → Q (suc h)) → Q height
interior_there usable pages low high page node Q zero is kind tree go = absurd (no_interior (ap kind_of (sym tree.0 ∙ is) ∙ kind))
interior_there usable pages low high page node Q (suc h) is kind tree go = go h refl tree

clash_a : TableLeaf ≡ IndexLeaf → ⊥
clash_a e = cc

clash_b : TableInterior ≡ IndexLeaf → ⊥
clash_b e = cc

clash_c : TableLeaf ≡ IndexInterior → ⊥
clash_c e = cc

clash_d : TableInterior ≡ IndexInterior → ⊥
clash_d e = cc

other_kind : (kind made : Kind) → (kind ≡ IndexLeaf) ⊎ (kind ≡ IndexInterior) → made ≡ kind → (made ≡ TableLeaf) ⊎ (made ≡ TableInterior) → ⊥
other_kind kind made index same table = elim index [
  | inl a ↦ (elim table [
    | inl b ↦ clash_a (sym b ∙ same ∙ a)
    | inr b ↦ clash_b (sym b ∙ same ∙ a)
  ])
  | inr a ↦ (elim table [
    | inl b ↦ clash_c (sym b ∙ same ∙ a)
    | inr b ↦ clash_d (sym b ∙ same ∙ a)
  ])
]

pub index_there : (usable : ℕ) (pages : Paging) (height low high page : ℕ) (node : PageCells) → node_at usable pages page ≡ Ok node → (node.kind ≡ IndexLeaf) ⊎ (node.kind ≡ IndexInterior)
    → IsTree usable pages height low high page → ⊥
index_there usable pages zero low high page node is index tree = other_kind node.kind TableLeaf index (ap kind_of (sym tree.0 ∙ is)) (inl refl)
index_there usable pages (suc h) low high page node is index tree = other_kind node.kind TableInterior index (ap kind_of (sym tree.0 ∙ is)) (inr refl)

-- the cells of a leaf behind those that were there
writable_both : (usable : ℕ) (xs ys : List Cell) → AreWritable TableLeaf usable xs → AreWritable TableLeaf usable ys → AreWritable TableLeaf usable (xs ++ ys)
writable_both usable [] ys first second = second
writable_both usable (x ∷ xs) ys first second = (first.0, writable_both usable xs ys first.1 second)

pub gained_sound : (usable : ℕ) (old new : Leaves) (cells : List Cell) (nodes : List ℕ) → Gains old new cells nodes → AreWritable TableLeaf usable cells → StaysSound usable old new
gained_sound usable old new cells nodes gains are = record {
  writable = λ first. subst (AreWritable TableLeaf usable) (sym gains.cells_are) (writable_both usable old.cells.items cells first are);
  counted = (let left = gains.left_is in let more = ap (need TableLeaf) gains.cells_are in omega (arith, left, more, need_append TableLeaf old.cells.items cells));
}

pub sound_both : (usable : ℕ) (a b c : Leaves) → StaysSound usable a b → StaysSound usable b c → StaysSound usable a c
sound_both usable a b c first second = record {
  writable = λ are. second.writable (first.writable are);
  counted = second.counted ∙ first.counted;
}

-- what comes behind what came
pub gains_both : (a b c : Leaves) (cells cells' all : List Cell) (nodes nodes' every : List ℕ) → Gains a b cells nodes → Gains b c cells' nodes' → all ≡ cells ++ cells' → every ≡ nodes ++ nodes'
    → Gains a c all every
gains_both a b c cells cells' all nodes nodes' every first second is are = record {
  cells_are = second.cells_are ∙ ap (λ (xs : List Cell). xs ++ cells') first.cells_are ∙ append_assoc a.cells.items cells cells' ∙ ap (λ (xs : List Cell). a.cells.items ++ xs) (sym is);
  pages_are = second.pages_are ∙ ap (λ (xs : List ℕ). xs ++ nodes') first.pages_are ∙ append_assoc a.pages.items nodes nodes' ∙ ap (λ (xs : List ℕ). a.pages.items ++ xs) (sym are);
  left_is = (let one = first.left_is in let two = second.left_is in let more = ap (need TableLeaf) is in omega (arith, one, two, more, need_append TableLeaf cells cells'));
}

one_of : (a b : ℕ) → 0 < a + b → (0 < a) ⊎ (0 < b)
one_of zero b some = inr (omega (arith, some))
one_of (suc a) b some = inl (omega arith)

whole_both : {P : Type 0} (g : Ghosts P) (s : P) (pages : Paging) (xs ys : List ℕ) → AreWhole g s pages xs → AreWhole g s pages ys → AreWhole g s pages (xs ++ ys)
whole_both g s pages xs ys first second = λ n some. elim (one_of (times n xs) (times n ys) (omega (arith, some, times-append n xs ys))) [
  | inl left ↦ first n left
  | inr right ↦ second n right
]

-- a page is noted, and then the cells of a leaf
pub noted : (old mid : Leaves) (page : ℕ) → mid.cells.items ≡ old.cells.items → mid.left ≡ old.left → mid.pages.items ≡ old.pages.items ++ (page ∷ []) → Gains old mid [] (page ∷ [])
noted old mid page cells left pages = record {
  cells_are = cells ∙ sym (append-nil old.cells.items);
  pages_are = pages;
  left_is = omega (arith, left);
}

pub leaf_sound : (usable : ℕ) (old mid new : Leaves) (page : ℕ) (node : PageCells) (fit : Bool) → Gains old mid [] (page ∷ []) → (fit ≡ true → Gains mid new node.cells []) → (fit ≡ false → new ≡ mid)
    → IsWritable node usable → node.kind ≡ TableLeaf → StaysSound usable old new
leaf_sound usable old mid new page node true first second same form kind =
    sound_both usable old mid new (gained_sound usable old mid [] (page ∷ []) first tt)
    (gained_sound usable mid new node.cells [] (second refl) (subst (λ (k : Kind). AreWritable k usable node.cells) kind form.cells))
leaf_sound usable old mid new page node false first second same form kind =
    subst (StaysSound usable old) (sym (same refl)) (gained_sound usable old mid [] (page ∷ []) first tt)

whole_one : {P : Type 0} (g : Ghosts P) (s : P) (pages : Paging) (page : ℕ) → g.used s ≤ length (sight g s pages page) → AreWhole g s pages (page ∷ [])
whole_one g s pages page long = λ n some. elim (same_or_not n page) [
  | inl same ↦ subst (λ (m : ℕ). g.used s ≤ length (sight g s pages m)) (sym same) long
  | inr other ↦ (let none = there n page [] other in absurd (omega (arith, some, none)))
]

-- a leaf that was read

module _ {P : Type 0} (g : Ghosts P) (s : P) (pages : Paging) (low high page : ℕ) (node : PageCells) (is : node_at (g.used s) (sight g s pages) page ≡ Ok node) where
  abbrev u : ℕ
  u = g.used s

  abbrev p : Paging
  p = sight g s pages

  cells_here : cells_under u p zero page ≡ node.cells
  cells_here = ap cells_in is

  pub leaf_gathers : (old mid new : Leaves) (height : ℕ) → node.kind ≡ TableLeaf → IsTree u p height low high page → u ≤ length (p page)
      → Gains old mid [] (page ∷ []) → Gains mid new node.cells [] → GathersTree g s pages height page old new
  leaf_gathers old mid new height kind tree long first second =
      leaf_there u p low high page node (λ h. GathersTree g s pages h page old new) height is kind tree (record {
        gains = gains_both old mid new [] node.cells (cells_under u p zero page) (page ∷ []) [] (page ∷ []) first second cells_here refl;
        whole = whole_one g s pages page long;
      })

  pub leaf_over : (old mid : Leaves) (height : ℕ) → node.kind ≡ TableLeaf → IsTree u p height low high page → Gains old mid [] (page ∷ []) → mid.left < need TableLeaf node.cells
      → old.left < need TableLeaf (cells_under u p height page)
  leaf_over old mid height kind tree first over =
      leaf_there u p low high page node (λ h. old.left < need TableLeaf (cells_under u p h page)) height is kind tree
      (let left = first.left_is in let same = ap (need TableLeaf) cells_here in omega (arith, left, over, same))

  -- an interior page that was read
  run_same : run_in (node_at u p page) ≡ run_with node.cells node.right
  run_same = ap run_in is

  cells_are : (h : ℕ) → cells_under u p (suc h) page ≡ cells_below u p h (run_with node.cells node.right)
  cells_are h = ap (cells_below u p h) run_same

  nodes_are : (h : ℕ) → tree_pages u p (suc h) page ≡ page ∷ nodes_in u p h (run_with node.cells node.right)
  nodes_are h = ap (λ (r : Run). page ∷ nodes_in u p h r) run_same

  pub interior_gathers : (old mid new : Leaves) (h : ℕ) → u ≤ length (p page) → Gains old mid [] (page ∷ []) → GathersRun g s pages h (run_with node.cells node.right) mid new
      → GathersTree g s pages (suc h) page old new
  interior_gathers old mid new h long first second =
      let run = run_with node.cells node.right in
      record {
        gains = gains_both old mid new [] (cells_below u p h run) (cells_under u p (suc h) page) (page ∷ []) (nodes_in u p h run) (tree_pages u p (suc h) page) first second.gains (cells_are h) (nodes_are h);
        whole = subst (AreWhole g s pages) (sym (nodes_are h)) (whole_both g s pages (page ∷ []) (nodes_in u p h run) (whole_one g s pages page long) second.whole);
      }

  pub interior_over : (old mid : Leaves) (h : ℕ) → Gains old mid [] (page ∷ []) → mid.left < need TableLeaf (cells_below u p h (run_with node.cells node.right))
      → old.left < need TableLeaf (cells_under u p (suc h) page)
  interior_over old mid h first over =
      let left = first.left_is in let same = ap (need TableLeaf) (cells_are h) in omega (arith, left, over, same)

-- what came of the children, as of the pages before the page was got
pub run_back : {P : Type 0} (g : Ghosts P) (s a : P) (pages : Paging) (h : ℕ) (run : Run) (node : PageCells) (mid new : Leaves) → Reads g s a → run ≡ run_with node.cells node.right
    → GathersRun g a pages h run mid new → GathersRun g s pages h (run_with node.cells node.right) mid new
run_back g s a pages h run node mid new reads is below =
    subst (λ (r : Run). GathersRun g s pages h r mid new) is (record {
      gains = was_so g s a pages (λ v q. Gains mid new (cells_below v q h run) (nodes_in v q h run)) reads below.gains;
      whole = was_so g s a pages (λ v q. HoldsOf (λ n. v ≤ length (q n)) (nodes_in v q h run)) reads below.whole;
    })

pub less_down : (height h levels : ℕ) → height ≡ suc h → height < levels → h < levels - 1
less_down height h levels is less = omega (arith, is, less)

-- the children of a page that was got
pub record IsAtRun {P : Type 0} (g : Ghosts P) (s a : P) (pages : Paging) (h low high page : ℕ) (run : Run) : Type 0 where
  pub held : IsHeldRun g a pages h low high run
  pub up : (b : P) → SeesRun g a b pages h run → SeesTree g s b pages (suc h) page

-- the children of an interior page among the pages of its tree
children_among : (usable : ℕ) (pages : Paging) (h page : ℕ) (run : Run) → run_in (node_at usable pages page) ≡ run
    → AreSame (all_pages usable pages (suc h) page) (pages_in usable pages h run ++ (page ∷ flat_map (chain_pages usable pages) (node_cells usable pages page)))
children_among usable pages h page run is n =
    let chains = flat_map (chain_pages usable pages) (node_cells usable pages page) in
    let mine = fan (all_pages usable pages h) (node_cells usable pages page) (node_right usable pages page) in
    let count = ap (λ (r : Run). times n (pages_in usable pages h r)) is in
    omega (arith, count, times-append n chains mine, times-append n (pages_in usable pages h run) (page ∷ chains))

pub at_run : {P : Type 0} (g : Ghosts P) → HaveLaws g → (s a : P) (pages : Paging) (low high page : ℕ) (node : PageCells) (run : Run) (Q : ℕ → Type 0) (height : ℕ)
    → node_at (g.used s) (sight g s pages) page ≡ Ok node → node.kind ≡ TableInterior → run ≡ run_with node.cells node.right → IsHeldTree g s pages height low high page
    → Reads g s a → SeesTree g s a pages height page → ((h : ℕ) → height ≡ suc h → IsAtRun g s a pages h low high page run → Q (suc h)) → Q height
at_run g laws s a pages low high page node run Q zero is kind same held reads seen go = absurd (no_interior (ap kind_of (sym held.tree.0 ∙ is) ∙ kind))
at_run g laws s a pages low high page node run Q (suc h) is kind same held reads seen go =
    let u = g.used s in
    let p = sight g s pages in
    let run_is : run_in (node_at u p page) ≡ run = ap run_in is ∙ sym same in
    let own = all_pages u p (suc h) page in
    let mine = pages_in u p h run in
    let rest : List ℕ = page ∷ flat_map (chain_pages u p) (node_cells u p page) in
    let parts : AreSame own (mine ++ rest) = children_among u p h page run run_is in
    let tree : IsRun u p h low high run = subst (IsRun u p h low high) run_is held.tree.1 in
    let mine_held = part_held g laws s a pages own mine rest parts seen held.held in
    let mine_later = part_later g laws s a pages own mine rest parts seen held.later in
    go h refl (record {
      held = record {
        ready = seen.ready;
        is = is_so g s a pages (λ v q. IsRun v q h low high run) reads tree;
        held = is_so g s a pages (λ v q. AreHeld g a pages (pages_in v q h run)) reads mine_held;
        later = is_so g s a pages (λ v q. times 1 (pages_in v q h run) ≡ 0) reads mine_later;
      };
      up = λ b next. part_seen g laws s a pages own mine rest parts seen b (was_so g s a pages (λ v q. Shifts g a b pages (pages_in v q h run) (pages_in v q h run) 0) reads next);
    })

-- some children were gathered, and the others are left
pub record IsGathering {P : Type 0} (g : Ghosts P) (s a : P) (pages : Paging) (h high : ℕ) (all left : Run) (old now : Leaves) : Type 0 where
  pub low : ℕ
  pub is : IsRun (g.used s) (sight g s pages) h low high left
  pub done : List ℕ
  pub parts : AreSame (pages_in (g.used s) (sight g s pages) h all) (pages_in (g.used s) (sight g s pages) h left ++ done)
  pub sees : SeesRun g s a pages h all
  pub cells_are : now.cells.items ++ cells_below (g.used s) (sight g s pages) h left ≡ old.cells.items ++ cells_below (g.used s) (sight g s pages) h all
  pub pages_are : now.pages.items ++ nodes_in (g.used s) (sight g s pages) h left ≡ old.pages.items ++ nodes_in (g.used s) (sight g s pages) h all
  pub left_is : now.left + need TableLeaf (cells_below (g.used s) (sight g s pages) h all) ≡ old.left + need TableLeaf (cells_below (g.used s) (sight g s pages) h left)
  pub whole : AreWhole g s pages (nodes_in (g.used s) (sight g s pages) h left) → AreWhole g s pages (nodes_in (g.used s) (sight g s pages) h all)

pub gathering_begins : {P : Type 0} (g : Ghosts P) → HaveLaws g → (s : P) (pages : Paging) (h low high : ℕ) (all : Run) (old : Leaves) → IsHeldRun g s pages h low high all
    → IsGathering g s s pages h high all all old old
gathering_begins g laws s pages h low high all old held = record {
  low = low;
  is = held.is;
  done = [];
  parts = (let own = pages_in (g.used s) (sight g s pages) h all in λ n. omega (arith, times-append n own []));
  sees = laws.idle s pages (pages_in (g.used s) (sight g s pages) h all) held.ready;
  cells_are = refl;
  pages_are = refl;
  left_is = refl;
  whole = λ are. are;
}

-- the next child, among those that are left
pub record IsAtNext {P : Type 0} (g : Ghosts P) (s a : P) (pages : Paging) (h high : ℕ) (all : Run) (low' high' child : ℕ) : Type 0 where
  pub held : IsHeldTree g a pages h low' high' child
  pub up : (b : P) → SeesTree g a b pages h child → SeesRun g s b pages h all

module _ {P : Type 0} (g : Ghosts P) (laws : HaveLaws g) (s a : P) (pages : Paging) (h low high : ℕ) (all : Run) (held : IsHeldRun g s pages h low high all) (reads : Reads g s a) where
  abbrev us : ℕ
  us = g.used s

  abbrev ps : Paging
  ps = sight g s pages

  abbrev own : List ℕ
  own = pages_in us ps h all

  next_at : (low' high' child : ℕ) (rest : List ℕ) → IsTree us ps h low' high' child → AreSame own (all_pages us ps h child ++ rest) → SeesRun g s a pages h all
      → IsAtNext g s a pages h high all low' high' child
  next_at low' high' child rest tree parts seen =
      let mine = all_pages us ps h child in
      let mine_held = part_held g laws s a pages own mine rest parts seen held.held in
      let mine_later = part_later g laws s a pages own mine rest parts seen held.later in
      record {
        held = record {
          ready = seen.ready;
          tree = is_so g s a pages (λ v q. IsTree v q h low' high' child) reads tree;
          held = is_so g s a pages (λ v q. AreHeld g a pages (all_pages v q h child)) reads mine_held;
          later = is_so g s a pages (λ v q. times 1 (all_pages v q h child) ≡ 0) reads mine_later;
        };
        up = λ b next. part_seen g laws s a pages own mine rest parts seen b (was_so g s a pages (λ v q. Shifts g a b pages (all_pages v q h child) (all_pages v q h child) 0) reads next);
      }

  -- what came of a child, as of the pages before the walk
  gains_then : (child : ℕ) (now new : Leaves) → GathersTree g a pages h child now new → Gains now new (cells_under us ps h child) (tree_pages us ps h child)
  gains_then child now new gathers = was_so g s a pages (λ v q. Gains now new (cells_under v q h child) (tree_pages v q h child)) reads gathers.gains

  whole_then : (child : ℕ) (now new : Leaves) → GathersTree g a pages h child now new → AreWhole g s pages (tree_pages us ps h child)
  whole_then child now new gathers = was_so g s a pages (λ v q. HoldsOf (λ n. v ≤ length (q n)) (tree_pages v q h child)) reads gathers.whole

  over_then : (child left : ℕ) → left < need TableLeaf (cells_under (g.used a) (sight g a pages) h child) → left < need TableLeaf (cells_under us ps h child)
  over_then child left over = was_so g s a pages (λ v q. left < need TableLeaf (cells_under v q h child)) reads over

  module _ (c : Cell) (cs : List Cell) (right : ℕ) (old now : Leaves) (is : IsGathering g s a pages h high all (run_with (c ∷ cs) right) old now) where
    abbrev after : Run
    after = run_with cs right

    abbrev mine : List ℕ
    mine = all_pages us ps h c.left

    mine_parts : AreSame own (mine ++ (pages_in us ps h after ++ is.done))
    mine_parts n =
        let whole = is.parts n in
        let one : times n (pages_in us ps h (run_with (c ∷ cs) right)) ≡ times n mine + times n (pages_in us ps h after) = times-append n mine (pages_in us ps h after) in
        omega (arith, whole, one, times-append n (pages_in us ps h (run_with (c ∷ cs) right)) is.done, times-append n mine (pages_in us ps h after ++ is.done), times-append n (pages_in us ps h after) is.done)

    pub first_next : IsAtNext g s a pages h high all is.low (rank c.key + 1) c.left
    first_next = next_at is.low (rank c.key + 1) c.left (pages_in us ps h after ++ is.done) is.is.2 mine_parts is.sees

    after_parts : AreSame own (pages_in us ps h after ++ (mine ++ is.done))
    after_parts n =
        let whole = mine_parts n in
        omega (
          arith,
          whole,
          times-append n mine (pages_in us ps h after ++ is.done),
          times-append n (pages_in us ps h after) is.done,
          times-append n (pages_in us ps h after) (mine ++ is.done),
          times-append n mine is.done,
        )

    pub gathering_on : (b : P) (new : Leaves) → SeesTree g a b pages h c.left → GathersTree g a pages h c.left now new → IsGathering g s b pages h high all after old new
    gathering_on b new sees gathers =
        let gains = gains_then c.left now new gathers in
        let mine_cells = cells_under us ps h c.left in
        let mine_nodes = tree_pages us ps h c.left in
        record {
          low = rank c.key + 1;
          is = is.is.3;
          done = mine ++ is.done;
          parts = after_parts;
          sees = first_next.up b sees;
          cells_are = ap (λ (xs : List Cell). xs ++ cells_below us ps h after) gains.cells_are ∙ append_assoc now.cells.items mine_cells (cells_below us ps h after) ∙ is.cells_are;
          pages_are = ap (λ (xs : List ℕ). xs ++ nodes_in us ps h after) gains.pages_are ∙ append_assoc now.pages.items mine_nodes (nodes_in us ps h after) ∙ is.pages_are;
          left_is = (let one = gains.left_is in let all_ = is.left_is in omega (arith, one, all_, need_append TableLeaf mine_cells (cells_below us ps h after)));
          whole = λ are. is.whole (whole_both g s pages mine_nodes (nodes_in us ps h after) (whole_then c.left now new gathers) are);
        }

    pub gathering_over : now.left < need TableLeaf (cells_under (g.used a) (sight g a pages) h c.left) → old.left < need TableLeaf (cells_below us ps h all)
    gathering_over over =
        let more = over_then c.left now.left over in
        let all_ = is.left_is in
        omega (arith, more, all_, need_append TableLeaf (cells_under us ps h c.left) (cells_below us ps h after))

  module _ (right : ℕ) (old now : Leaves) (is : IsGathering g s a pages h high all (run_with [] right) old now) where
    pub last_next : IsAtNext g s a pages h high all is.low high right
    last_next = next_at is.low high right is.done is.is is.parts is.sees

    pub gathering_ends : (new : Leaves) → GathersTree g a pages h right now new → GathersRun g s pages h all old new
    gathering_ends new gathers =
        let gains = gains_then right now new gathers in
        record {
          gains = record {
            cells_are = gains.cells_are ∙ is.cells_are;
            pages_are = gains.pages_are ∙ is.pages_are;
            left_is = (let one = gains.left_is in let all_ = is.left_is in omega (arith, one, all_));
          };
          whole = is.whole (whole_then right now new gathers);
        }

    pub last_over : now.left < need TableLeaf (cells_under (g.used a) (sight g a pages) h right) → old.left < need TableLeaf (cells_below us ps h all)
    last_over over =
        let more = over_then right now.left over in
        let all_ = is.left_is in
        omega (arith, more, all_)
