-- A page that was looked at on the way down, and what comes back from below it.
use Rattle.std.proofs.Common.{◌≡◌, ◌≢◌, ℕ, zero, suc, ℤ, ◌+◌, ◌-◌, ◌*◌, ◌^◌, ◌<◌, ◌≤◌, List, [], ◌∷◌, None, Some, true, length, refl, sym, subst, take, arith, Ok, inl, inr}
use Rattle.spe_model.specs.declared.page.Kind.TheVariants.{TableInterior, TableLeaf}
use Rattle.spe_model.specs.Page.{ascends}
use Rattle.spe_model.specs.Paging.{Agrees, PageMap, Paging, lay}
use Rattle.spe_model.specs.Served.{HasCells}
use Rattle.spe_model.specs.Standing.{all_pages}
use Rattle.spe_model.specs.Tree.{IsTree, header_end, node_cells, node_right, row_at, tree_rows}
use Rattle.spe_space.specs.declared.pages.Pages.{Ghosts}
use Rattle.spe_space.specs.Calls.{Keeps, Reads, sight}
use Rattle.spe_space.specs.Front.{number_in}
use Rattle.spe_frame.specs.Held.{AreHeld, IsReady, Shifts, Spares}
use Rattle.spe_frame.specs.Times.{times}
use Rattle.spe_cut.specs.Run.{AreFilledBelow, IsRun, Run, high_at, low_at, pages_in, rows_in}
use Rattle.spe_search.specs.declared.page.Found.{Found}
use Rattle.spe_search.specs.declared.page.Step.{Step}
use Rattle.spe_search.specs.declared.page.Step.TheVariants.{Child, Missing, Row}
use Rattle.spe_search.specs.Found.{GivesStep, IsStep}
use Rattle.spe_search.specs.Step.{IsNoTable}
use Rattle.spe_search.proofs.FoundLemmas.{interior_leads, leaf_leads, no_interior, no_leaf}
use Rattle.spe_search.proofs.TreeLemmas.{row_found, row_missing}
use Rattle.spe_insert.specs.Below.{Becomes, IsPlaceFor, IsShort, IsThere, LacksRow, pages_for}
use Rattle.spe_insert.specs.Edit.{Edit, IsBefore, edited, size_of}
use Rattle.spe_insert.specs.Interior.{LaysRun}
use Rattle.spe_insert.specs.Laws.{HaveLaws}
use Rattle.spe_insert.specs.Step.{IsBegun, grown_in, place_in}
use Rattle.spe_insert.proofs.PutBelowLemmas.{HasChild, IsGrownBelow, IsUpper, becomes_laid, child_grown, child_placed, children_at, later_page, one_more, spares_up, there_up, upper_is, upper_parts}

-- bytes under which a tree stands are a legal page of a table
pub no_table : (usable u at : ℕ) (pages : Paging) (bytes : List ℕ) (height low high page : ℕ) → u ≡ usable → at ≡ header_end page → bytes ≡ pages page
    → IsNoTable (take u bytes) at → IsTree usable pages height low high page → ⊥
no_table usable u at pages bytes zero low high page same place is none tree =
    none (record { kind = TableLeaf; cells = node_cells usable pages page; right = node_right usable pages page }) (rw (same, place, is) tree.0) (inl refl)
no_table usable u at pages bytes (suc h) low high page same place is none tree =
    none (record { kind = TableInterior; cells = node_cells usable pages page; right = node_right usable pages page }) (rw (same, place, is) tree.0) (inr refl)

-- gets are calls
pub keeps_reads : {P : Type 0} (g : Ghosts P) (s a : P) → Reads g s a → Keeps g s a
keeps_reads g s a reads = record {
  earlier = reads.earlier;
  told = reads.told;
  size = reads.size;
  used = reads.used;
  limit = reads.limit;
  sealed = reads.sealed;
  count = reads.count;
}

-- what is said of the pages of a tree before a get is said of them after it
pub seen_same : {P : Type 0} (g : Ghosts P) (s a : P) (pages : Paging) (Q : ℕ → Paging → Type 0) → Reads g s a → Q (g.used s) (sight g s pages) → Q (g.used a) (sight g a pages)
seen_same g s a pages Q reads is =
    subst (λ (u : ℕ). Q u (sight g a pages)) (sym reads.used) (subst (λ (laid : PageMap). Q (g.used s) (lay laid pages)) (sym reads.laid) is)

pub was_same : {P : Type 0} (g : Ghosts P) (s a : P) (pages : Paging) (Q : ℕ → Paging → Type 0) → Reads g s a → Q (g.used a) (sight g a pages) → Q (g.used s) (sight g s pages)
was_same g s a pages Q reads is =
    subst (λ (laid : PageMap). Q (g.used s) (lay laid pages)) reads.laid (subst (λ (u : ℕ). Q u (sight g a pages)) reads.used is)

-- the page is the first of its tree's
pub record HasFirst (page : ℕ) (all : List ℕ) : Type 0 where
  pub rest : List ℕ
  pub is : all ≡ page ∷ rest

first_of_tree : (usable : ℕ) (pages : Paging) (height page : ℕ) → HasFirst page (all_pages usable pages height page)
first_of_tree usable pages zero page = record { rest = _; is = refl }
first_of_tree usable pages (suc h) page = record { rest = _; is = refl }

-- a get of the page as a change of its tree
pub tree_seen : {P : Type 0} (g : Ghosts P) → HaveLaws g → (s a : P) (pages : Paging) (height low high page : ℕ) (rowid : ℤ) → IsPlaceFor g s pages height low high page rowid
    → (IsReady g s pages → AreHeld g s pages (page ∷ []) → Shifts g s a pages (page ∷ []) (page ∷ []) 0)
    → Shifts g s a pages (all_pages (g.used s) (sight g s pages) height page) (all_pages (g.used s) (sight g s pages) height page) 0
tree_seen g laws s a pages height low high page rowid placed seen =
    let first = first_of_tree (g.used s) (sight g s pages) height page in
    let held = laws.apart s pages (page ∷ []) first.rest (subst (AreHeld g s pages) first.is placed.held) in
    subst (λ (all : List ℕ). Shifts g s a pages all all 0) (sym first.is) (laws.beside s a pages (page ∷ []) (page ∷ []) first.rest 0 (seen placed.ready held.0))

pub page_held : {P : Type 0} (g : Ghosts P) → HaveLaws g → (s : P) (pages : Paging) (height low high page : ℕ) (rowid : ℤ) → IsPlaceFor g s pages height low high page rowid → AreHeld g s pages (page ∷ [])
page_held g laws s pages height low high page rowid placed =
    let first = first_of_tree (g.used s) (sight g s pages) height page in
    (laws.apart s pages (page ∷ []) first.rest (subst (AreHeld g s pages) first.is placed.held)).0

pub placed_seen : {P : Type 0} (g : Ghosts P) (s a : P) (pages : Paging) (height low high page : ℕ) (rowid : ℤ) → Reads g s a → IsPlaceFor g s pages height low high page rowid
    → Shifts g s a pages (all_pages (g.used s) (sight g s pages) height page) (all_pages (g.used s) (sight g s pages) height page) 0
    → IsPlaceFor g a pages height low high page rowid
placed_seen g s a pages height low high page rowid reads placed seen = record {
  ready = seen.ready;
  tree = seen_same g s a pages (λ u p. IsTree u p height low high page) reads placed.tree;
  held = seen_same g s a pages (λ u p. AreHeld g a pages (all_pages u p height page)) reads (seen.held placed.held);
  later = seen_same g s a pages (λ u p. times 1 (all_pages u p height page) ≡ 0) reads placed.later;
  from = placed.from;
  to = placed.to;
}

no_more : (count : ℕ) → 0 + count ≡ count
no_more count = omega arith

-- what a call does after the page was got
pub spares_seen : {P : Type 0} (g : Ghosts P) → HaveLaws g → (s a e : P) (pages : Paging) (height page size : ℕ) → Reads g s a
    → Shifts g s a pages (all_pages (g.used s) (sight g s pages) height page) (all_pages (g.used s) (sight g s pages) height page) 0
    → Spares g a e pages (all_pages (g.used a) (sight g a pages) height page) (pages_for (g.used a) height size)
    → Spares g s e pages (all_pages (g.used s) (sight g s pages) height page) (pages_for (g.used s) height size)
spares_seen g laws s a e pages height page size reads seen spares =
    let all = all_pages (g.used s) (sight g s pages) height page in
    let count = pages_for (g.used s) height size in
    subst (Spares g s e pages all) (no_more count)
    (laws.fails s a e pages all all 0 count seen (was_same g s a pages (λ u p. Spares g a e pages (all_pages u p height page) (pages_for u height size)) reads spares))

pub becomes_seen : {P : Type 0} (g : Ghosts P) → HaveLaws g → (s a e : P) (pages : Paging) (height low high page : ℕ) (rowid : ℤ) (edit : Edit) (run : Run) → Reads g s a
    → Shifts g s a pages (all_pages (g.used s) (sight g s pages) height page) (all_pages (g.used s) (sight g s pages) height page) 0
    → Becomes g a e pages height low high page rowid edit run → Becomes g s e pages height low high page rowid edit run
becomes_seen g laws s a e pages height low high page rowid edit run reads seen x =
    let all = all_pages (g.used s) (sight g s pages) height page in
    let count = pages_for (g.used s) height (size_of edit) in
    let then_ = was_same g s a pages (λ u p. Shifts g a e pages (all_pages u p height page) (pages_in u (sight g e pages) height run) (pages_for u height (size_of edit))) reads x.shifts in
    record {
      before = was_same g s a pages (λ u p. IsBefore edit (row_at rowid (tree_rows u p height page))) reads x.before;
      is = was_same g s a pages (λ u p. IsRun u (sight g e pages) height low high run) reads x.is;
      last = x.last;
      first = x.first;
      filled = was_same g s a pages (λ u p. HasCells u p height page → AreFilledBelow u (sight g e pages) height run) reads x.filled;
      below = was_same g s a pages (λ u p. HasCells u p height page → 1 ≤ length run.cells → number_in p * 512 ≤ 2 ^ 30 → height + 1 < 20) reads x.below;
      rows = was_same g s a pages (λ u p. rows_in u (sight g e pages) height run ≡ edited edit rowid (tree_rows u p height page)) reads x.rows;
      shifts = subst (Shifts g s e pages all (pages_in (g.used s) (sight g e pages) height run)) (no_more count) (laws.both s a e pages all all _ 0 count seen then_);
    }

pub there_seen : {P : Type 0} (g : Ghosts P) → HaveLaws g → (s a e : P) (pages : Paging) (height page : ℕ) (rowid : ℤ) → Reads g s a
    → Shifts g s a pages (all_pages (g.used s) (sight g s pages) height page) (all_pages (g.used s) (sight g s pages) height page) 0
    → IsThere g a e pages height page rowid → IsThere g s e pages height page rowid
there_seen g laws s a e pages height page rowid reads seen x =
    let all = all_pages (g.used s) (sight g s pages) height page in
    let then_ = was_same g s a pages (λ u p. Shifts g a e pages (all_pages u p height page) (all_pages u p height page) 0) reads x.shifts in
    record {
      payload = x.payload;
      row = was_same g s a pages (λ u p. row_at rowid (tree_rows u p height page) ≡ Some x.payload) reads x.row;
      shifts = laws.both s a e pages all all all 0 0 seen then_;
    }

-- The page was got, and leads somewhere.
pub record IsLooked {P : Type 0} (g : Ghosts P) (s a : P) (pages : Paging) (page : ℕ) (rowid : ℤ) (step : Step) : Type 0 where
  pub reads : Reads g s a
  pub shifts : IsReady g s pages → AreHeld g s pages (page ∷ []) → Shifts g s a pages (page ∷ []) (page ∷ []) 0
  pub leads : IsStep (g.used s) (sight g s pages) page rowid (Ok step)
  pub inside : g.used s ≤ length (sight g s pages page)
  pub wide : 5 ≤ g.used s

-- a leaf after it was got
pub record IsAtLeaf {P : Type 0} (g : Ghosts P) (s a : P) (pages : Paging) (low high page : ℕ) (rowid : ℤ) : Type 0 where
  pub placed : IsPlaceFor g a pages 0 low high page rowid
  pub absent : LacksRow g a pages 0 page rowid
  pub seen : Shifts g s a pages (all_pages (g.used s) (sight g s pages) 0 page) (all_pages (g.used s) (sight g s pages) 0 page) 0

-- where the row is missing, the page is a leaf
pub at_leaf : {P : Type 0} (g : Ghosts P) → HaveLaws g → (s a : P) (pages : Paging) (low high page : ℕ) (rowid : ℤ) (Q : ℕ → Type 0) (height : ℕ) → IsLooked g s a pages page rowid Missing
    → IsPlaceFor g s pages height low high page rowid → (IsAtLeaf g s a pages low high page rowid → Q 0) → Q height
at_leaf g laws s a pages low high page rowid Q zero looked placed go =
    let u = g.used s in
    let p = sight g s pages in
    let seen = tree_seen g laws s a pages 0 low high page rowid placed looked.shifts in
    let lead = leaf_leads u p low high page rowid Missing looked.leads placed.tree in
    go (record {
      placed = placed_seen g s a pages 0 low high page rowid looked.reads placed seen;
      absent = seen_same g s a pages (λ v q. row_at rowid (tree_rows v q 0 page) ≡ None) looked.reads (row_missing u p rowid (node_cells u p page) lead.1);
      seen = seen;
    })
at_leaf g laws s a pages low high page rowid Q (suc h) looked placed go =
    absurd (no_leaf (interior_leads (g.used s) (sight g s pages) h low high page rowid Missing looked.leads placed.tree).0)

-- the row that is in a leaf
pub row_there : {P : Type 0} (g : Ghosts P) → HaveLaws g → (s a : P) (pages : Paging) (height low high page : ℕ) (rowid : ℤ) (found : Found) → IsLooked g s a pages page rowid (Row found)
    → IsPlaceFor g s pages height low high page rowid → IsThere g s a pages height page rowid
row_there g laws s a pages zero low high page rowid found looked placed =
    let u = g.used s in
    let p = sight g s pages in
    let lead = leaf_leads u p low high page rowid (Row found) looked.leads placed.tree in
    record {
      payload = _;
      row = (row_found u p rowid low high (node_cells u p page) found placed.tree.1 lead.1).is;
      shifts = tree_seen g laws s a pages 0 low high page rowid placed looked.shifts;
    }
row_there g laws s a pages (suc h) low high page rowid found looked placed =
    absurd (no_leaf (interior_leads (g.used s) (sight g s pages) h low high page rowid (Row found) looked.leads placed.tree).0)

-- an interior page after it was got
pub record IsAtChild {P : Type 0} (g : Ghosts P) (s a : P) (pages : Paging) (h low high page : ℕ) (rowid : ℤ) (child : ℕ) : Type 0 where
  pub children : Run
  pub up : IsUpper g a pages h low high page rowid children child
  pub has : HasChild g a pages h low high page rowid children child
  pub later : page ≢ 1
  pub seen : Shifts g s a pages (all_pages (g.used s) (sight g s pages) (suc h) page) (all_pages (g.used s) (sight g s pages) (suc h) page) 0
  pub at : IsPlaceFor g a pages h (low_at low (place_in children rowid)) (high_at high (place_in children rowid)) child rowid

-- where a child is named, the page is one level above it
pub at_child : {P : Type 0} (g : Ghosts P) → HaveLaws g → (s a : P) (pages : Paging) (low high page : ℕ) (rowid : ℤ) (child : ℕ) (Q : ℕ → Type 0) (height : ℕ)
    → IsLooked g s a pages page rowid (Child child) → IsPlaceFor g s pages height low high page rowid
    → ((h : ℕ) → IsAtChild g s a pages h low high page rowid child → height ≡ suc h → Q (suc h)) → Q height
at_child g laws s a pages low high page rowid child Q zero looked placed go =
    absurd (no_interior (leaf_leads (g.used s) (sight g s pages) low high page rowid (Child child) looked.leads placed.tree).0)
at_child g laws s a pages low high page rowid child Q (suc h) looked placed go =
    let seen = tree_seen g laws s a pages (suc h) low high page rowid placed looked.shifts in
    let at_a = placed_seen g s a pages (suc h) low high page rowid looked.reads placed seen in
    let wide = seen_same g s a pages (λ v q. 5 ≤ v) looked.reads looked.wide in
    let children = children_at (g.used a) (sight g a pages) page in
    let up = upper_is g a pages h low high page rowid child (seen_same g s a pages (λ v q. v ≤ length (q page)) looked.reads looked.inside)
    (seen_same g s a pages (λ v q. IsStep v q page rowid (Ok (Child child))) looked.reads looked.leads) at_a in
    let has = upper_parts g laws a pages h low high page rowid children child wide up in
    go h (record {
      children = children;
      up = up;
      has = has;
      later = later_page page (all_pages (g.used a) (sight g a pages) (suc h) page) (pages_in (g.used a) (sight g a pages) h children) has.held_by.pages_are at_a.later;
      seen = seen;
      at = child_placed g laws a pages h low high page rowid children child up has;
    }) refl

-- the child became a run, and the page was put
pub record IsReturn {P : Type 0} (g : Ghosts P) (s a m : P) (pages : Paging) (h low high page : ℕ) (rowid : ℤ) (edit : Edit) (child : ℕ) (run : Run) : Type 0 where
  pub down : IsAtChild g s a pages h low high page rowid child
  pub grown : IsGrownBelow g a m pages h low high page rowid edit down.children run
  pub ready : IsReady g m pages
  pub held : AreHeld g m pages (page ∷ [])
  pub used : g.used m ≡ g.used a
  pub begun : IsBegun (g.used m) (sight g m pages) page down.children rowid run
  pub ascends_ : ascends (grown_in down.children rowid run).cells ≡ true

pub returns_from : {P : Type 0} (g : Ghosts P) → HaveLaws g → (s a m : P) (pages : Paging) (h low high page : ℕ) (rowid : ℤ) (edit : Edit) (child : ℕ) (run : Run)
    → (down : IsAtChild g s a pages h low high page rowid child)
    → Becomes g a m pages h (low_at low (place_in down.children rowid)) (high_at high (place_in down.children rowid)) child rowid edit run
    → IsReturn g s a m pages h low high page rowid edit child run
returns_from g laws s a m pages h low high page rowid edit child run down becomes =
    let grown = child_grown g laws a m pages h low high page rowid edit down.children child run down.up down.has becomes in
    let used : g.used m ≡ g.used a = grown.shifts.spares.sizes.used in
    let all = grown_in down.children rowid run in
    record {
      down = down;
      grown = grown;
      ready = grown.shifts.ready;
      held = (laws.apart m pages (page ∷ []) (pages_in (g.used a) (sight g m pages) h all) (grown.shifts.held down.up.placed.held)).0;
      used = used;
      begun = subst (λ (u : ℕ). IsBegun u (sight g m pages) page down.children rowid run) (sym used) grown.begun;
      ascends_ = laws.ascends (g.used a) (sight g m pages) h low high all grown.is;
    }

pub becomes_up : {P : Type 0} (g : Ghosts P) → HaveLaws g → (s a m e : P) (pages : Paging) (h low high page : ℕ) (rowid : ℤ) (edit : Edit) (child : ℕ) (run new : Run)
    → Reads g s a → 5 ≤ g.used s → (512 ≤ g.size a) × (g.limit a * g.size a ≤ 2 ^ 30) → (back : IsReturn g s a m pages h low high page rowid edit child run)
    → LaysRun g m e pages page (grown_in back.down.children rowid run) new → Becomes g s e pages (suc h) low high page rowid edit new
becomes_up g laws s a m e pages h low high page rowid edit child run new reads wide bounded back lays =
    becomes_seen g laws s a e pages (suc h) low high page rowid edit new reads back.down.seen
    (becomes_laid g laws a m e pages h low high page rowid edit back.down.children run new (record {
      wide = seen_same g s a pages (λ v q. 5 ≤ v) reads wide;
      bounded = bounded;
      placed = back.down.up.placed;
      later = back.down.later;
      grown = back.grown;
    }) lays)

-- a page that could not be put after its child became a run
pub spares_back : {P : Type 0} (g : Ghosts P) → HaveLaws g → (s a m e : P) (pages : Paging) (h low high page : ℕ) (rowid : ℤ) (edit : Edit) (child : ℕ) (run : Run)
    → Reads g s a → (back : IsReturn g s a m pages h low high page rowid edit child run) → Spares g m e pages (page ∷ []) 1
    → Spares g s e pages (all_pages (g.used s) (sight g s pages) (suc h) page) (pages_for (g.used s) (suc h) (size_of edit))
spares_back g laws s a m e pages h low high page rowid edit child run reads back spares =
    let all = all_pages (g.used a) (sight g a pages) (suc h) page in
    let below = pages_in (g.used a) (sight g m pages) h (grown_in back.down.children rowid run) in
    let count = pages_for (g.used a) h (size_of edit) in
    spares_seen g laws s a e pages (suc h) page (size_of edit) reads back.down.seen
    (subst (Spares g a e pages all) (one_more _ h) (laws.fails a m e pages all (page ∷ below) count 1 back.grown.shifts (laws.fails_beside m e pages (page ∷ []) below 1 spares)))

less_more : (links h : ℕ) → links + (3 + h) ≤ links + (3 + suc h)
less_more links h = omega arith

-- a call below that failed
pub spares_below : {P : Type 0} (g : Ghosts P) → HaveLaws g → (s a e : P) (pages : Paging) (h low high page size : ℕ) (rowid : ℤ) (child : ℕ)
    → Reads g s a → (down : IsAtChild g s a pages h low high page rowid child) → Spares g a e pages (all_pages (g.used a) (sight g a pages) h child) (pages_for (g.used a) h size)
    → Spares g s e pages (all_pages (g.used s) (sight g s pages) (suc h) page) (pages_for (g.used s) (suc h) size)
spares_below g laws s a e pages h low high page size rowid child reads down spares =
    let all = all_pages (g.used a) (sight g a pages) (suc h) page in
    spares_seen g laws s a e pages (suc h) page size reads down.seen
    (laws.fails_more a e pages all (pages_for (g.used a) h size) (pages_for (g.used a) (suc h) size) (less_more _ h)
    (spares_up g laws a e pages h low high page rowid down.children child (pages_for (g.used a) h size) down.has spares))

pub there_below : {P : Type 0} (g : Ghosts P) → HaveLaws g → (s a e : P) (pages : Paging) (h low high page : ℕ) (rowid : ℤ) (child : ℕ)
    → Reads g s a → (down : IsAtChild g s a pages h low high page rowid child) → IsThere g a e pages h child rowid → IsThere g s e pages (suc h) page rowid
there_below g laws s a e pages h low high page rowid child reads down there =
    there_seen g laws s a e pages (suc h) page rowid reads down.seen (there_up g laws a e pages h low high page rowid down.children child down.up down.has there)

-- a page that could not be got
pub spares_got : {P : Type 0} (g : Ghosts P) → HaveLaws g → (s a : P) (pages : Paging) (height page size : ℕ)
    → Shifts g s a pages (all_pages (g.used s) (sight g s pages) height page) (all_pages (g.used s) (sight g s pages) height page) 0
    → Spares g s a pages (all_pages (g.used s) (sight g s pages) height page) (pages_for (g.used s) height size)
spares_got g laws s a pages height page size seen =
    laws.fails_more s a pages (all_pages (g.used s) (sight g s pages) height page) 0 (pages_for (g.used s) height size) (omega arith) seen.spares

-- what a look tells, of the rowid that was handed on
pub looked_is : {P : Type 0} (g : Ghosts P) (s a : P) (pages : Paging) (page : ℕ) (z rowid : ℤ) (took step : Step) (bytes : List ℕ) → z ≡ rowid → took ≡ step → Agrees pages (g.seen a) → Reads g s a
    → (IsReady g s pages → AreHeld g s pages (page ∷ []) → Shifts g s a pages (page ∷ []) (page ∷ []) 0) → GivesStep g s a page z (Ok took)
    → 480 ≤ g.used s → g.used s ≤ length bytes → bytes ≡ sight g s pages page → IsLooked g s a pages page rowid step
looked_is g s a pages page z rowid took step bytes same same_step agrees reads shifts given wide inside is = record {
  reads = reads;
  shifts = shifts;
  leads = subst (λ (x : Step). IsStep (g.used s) (sight g s pages) page rowid (Ok x)) same_step
      (subst (λ (k : ℤ). IsStep (g.used s) (sight g s pages) page k (Ok took)) same (given pages agrees));
  inside = subst (λ (bs : List ℕ). g.used s ≤ length bs) is inside;
  wide = omega (arith, wide);
}

pub short_same : (u v : ℕ) (run : Run) → u ≡ v → IsShort u run → IsShort v run
short_same u v run same short = subst (λ (k : ℕ). IsShort k run) same short

-- bytes of a page before a get are those after it
pub page_same : {P : Type 0} (g : Ghosts P) (s a : P) (pages : Paging) (page : ℕ) (bytes : List ℕ) → Reads g s a → bytes ≡ sight g s pages page → bytes ≡ sight g a pages page
page_same g s a pages page bytes reads is = seen_same g s a pages (λ u p. bytes ≡ p page) reads is

pub less_below : (height h levels : ℕ) → height ≡ suc h → height < levels → h < levels - 1
less_below height h levels is less = omega (arith, is, less)
