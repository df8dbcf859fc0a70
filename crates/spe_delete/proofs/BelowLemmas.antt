-- A tree that loses a row below one of its pages.
use Rattle.std.proofs.Common.{◌≡◌, ℕ, zero, suc, ℤ, ◌+◌, ◌<◌, ◌≤◌, ◌∙◌, List, [], ◌∷◌, ◌++◌, Some, None, take, drop, refl, sym, ap, subst, arith, inl, inr}
use Rattle.std.proofs.lemmas.Bool.{le-ltb, lt-ltb}
use Rattle.std.proofs.lemmas.Bool.Decides.{leb_tells}
use Rattle.std.proofs.lemmas.List.{append-nil}
use Rattle.spe_model.specs.declared.page.Cell.{Cell}
use Rattle.spe_model.specs.Paging.{PageMap, Paging, lay}
use Rattle.spe_model.specs.Served.{HasCells}
use Rattle.spe_model.specs.Standing.{all_pages}
use Rattle.spe_model.specs.Tree.{IsTree, cells_in, child_for, node_cells, node_right, rank, right_in, row_at, tree_rows}
use Rattle.spe_space.specs.declared.pages.Pages.{Ghosts}
use Rattle.spe_space.specs.Calls.{Reads, sight}
use Rattle.spe_frame.specs.Held.{AreHeld, Shifts, Spares}
use Rattle.spe_frame.specs.Times.{AreSame, Lacks, times}
use Rattle.spe_frame.proofs.TimesLemmas.{here, times-append}
use Rattle.spe_cut.specs.Gone.{RowIsTaken, without_row}
use Rattle.spe_cut.specs.Child.{RunGrows}
use Rattle.spe_cut.specs.Run.{AreFilledBelow, AreKept, HoldsRun, IsHolder, IsRun, Place, Run, alone, high_at, inner, last, low_at, pages_beside, pages_in, rows_in, with_child, with_run}
use Rattle.spe_cut.proofs.HolderLemmas.{Reading}
use Rattle.spe_search.specs.declared.page.Found.{Found}
use Rattle.spe_search.specs.declared.page.Step.TheVariants.{Missing, Row}
use Rattle.spe_search.proofs.FoundLemmas.{interior_leads, no_leaf}
use Rattle.spe_insert.specs.Below.{IsPlaceFor}
use Rattle.spe_insert.specs.Laws.{HaveLaws}
use Rattle.spe_insert.specs.Place.{place_at, place_for}
use Rattle.spe_insert.specs.Step.{place_in}
use Rattle.spe_insert.proofs.PlaceLemmas.{behind_first}
use Rattle.spe_insert.proofs.LookLemmas.{IsAtChild, IsAtLeaf, IsLooked, at_leaf, tree_seen}
use Rattle.spe_insert.proofs.PutBelowLemmas.{holder_kept, others_kept, spares_up}
use Rattle.spe_delete.specs.Below.{IsBare, TakesRow}
use Rattle.spe_delete.specs.Child.{DropsChild, HasEmptyLeaf, KeepsLeaf}
use Rattle.spe_delete.specs.Leaf.{DropsCell, IsAbsent}

-- what is said of the pages of a tree after a get was said of them before it
pub was_so : {P : Type 0} (g : Ghosts P) (s a : P) (pages : Paging) (Q : ℕ → Paging → Type 0) → Reads g s a → Q (g.used a) (sight g a pages) → Q (g.used s) (sight g s pages)
was_so g s a pages Q reads is =
    subst (λ (laid : PageMap). Q (g.used s) (lay laid pages)) reads.laid (subst (λ (u : ℕ). Q u (sight g a pages)) reads.used is)

-- and the other way
pub is_so : {P : Type 0} (g : Ghosts P) (s a : P) (pages : Paging) (Q : ℕ → Paging → Type 0) → Reads g s a → Q (g.used s) (sight g s pages) → Q (g.used a) (sight g a pages)
is_so g s a pages Q reads is =
    subst (λ (u : ℕ). Q u (sight g a pages)) (sym reads.used) (subst (λ (laid : PageMap). Q (g.used s) (lay laid pages)) (sym reads.laid) is)

-- a get of the page changed nothing of its tree
abbrev pub IsSeen : {P : Type 0} (g : Ghosts P) (s a : P) → Paging → (height page : ℕ) → Type 0
IsSeen g s a pages height page = Shifts g s a pages (all_pages (g.used s) (sight g s pages) height page) (all_pages (g.used s) (sight g s pages) height page) 0

pub takes_seen : {P : Type 0} (g : Ghosts P) → HaveLaws g → (s a e : P) (pages : Paging) (height low high page : ℕ) (rowid : ℤ) → Reads g s a → IsSeen g s a pages height page
    → TakesRow g a e pages height low high page rowid → TakesRow g s e pages height low high page rowid
takes_seen g laws s a e pages height low high page rowid reads seen x =
    let all = all_pages (g.used s) (sight g s pages) height page in
    let then_ = was_so g s a pages (λ u p. Shifts g a e pages (all_pages u p height page) (all_pages u (sight g e pages) height page) 0) reads x.loses.shifts in
    record {
      loses = record {
        payload = x.loses.payload;
        present = was_so g s a pages (λ u p. row_at rowid (tree_rows u p height page) ≡ Some x.loses.payload) reads x.loses.present;
        tree = was_so g s a pages (λ u p. IsTree u (sight g e pages) height low high page) reads x.loses.tree;
        rows = was_so g s a pages (λ u p. tree_rows u (sight g e pages) height page ≡ without_row rowid (tree_rows u p height page)) reads x.loses.rows;
        shifts = laws.both s a e pages all all (all_pages (g.used s) (sight g e pages) height page) 0 0 seen then_;
      };
      filled = was_so g s a pages (λ u p. HasCells u p height page → HasCells u (sight g e pages) height page) reads x.filled;
    }

pub absent_seen : {P : Type 0} (g : Ghosts P) → HaveLaws g → (s a e : P) (pages : Paging) (height page : ℕ) (rowid : ℤ) → Reads g s a → IsSeen g s a pages height page
    → IsAbsent g a e pages height page rowid → IsAbsent g s e pages height page rowid
absent_seen g laws s a e pages height page rowid reads seen x =
    let all = all_pages (g.used s) (sight g s pages) height page in
    let then_ = was_so g s a pages (λ u p. Shifts g a e pages (all_pages u p height page) (all_pages u p height page) 0) reads x.shifts in
    record {
      absent = was_so g s a pages (λ u p. row_at rowid (tree_rows u p height page) ≡ None) reads x.absent;
      shifts = laws.both s a e pages all all all 0 0 seen then_;
    }

pub fails_seen : {P : Type 0} (g : Ghosts P) → HaveLaws g → (s a e : P) (pages : Paging) (height page : ℕ) → Reads g s a → IsSeen g s a pages height page
    → Spares g a e pages (all_pages (g.used a) (sight g a pages) height page) 0 → Spares g s e pages (all_pages (g.used s) (sight g s pages) height page) 0
fails_seen g laws s a e pages height page reads seen spares =
    let all = all_pages (g.used s) (sight g s pages) height page in
    laws.fails s a e pages all all 0 0 seen (was_so g s a pages (λ u p. Spares g a e pages (all_pages u p height page) 0) reads spares)

-- a leaf without the row
pub missing_there : {P : Type 0} (g : Ghosts P) → HaveLaws g → (s a : P) (pages : Paging) (height low high page : ℕ) (rowid : ℤ) → IsLooked g s a pages page rowid Missing
    → IsPlaceFor g s pages height low high page rowid → IsAbsent g s a pages height page rowid
missing_there g laws s a pages height low high page rowid looked placed =
    at_leaf g laws s a pages low high page rowid (λ h. IsAbsent g s a pages h page rowid) height looked placed
    (λ (leaf : IsAtLeaf g s a pages low high page rowid). record {
      absent = was_so g s a pages (λ u p. row_at rowid (tree_rows u p 0 page) ≡ None) looked.reads leaf.absent;
      shifts = leaf.seen;
    })

-- a leaf with the row, after it was got
pub record IsAtRow {P : Type 0} (g : Ghosts P) (s a : P) (pages : Paging) (low high page : ℕ) (rowid : ℤ) : Type 0 where
  pub placed : IsPlaceFor g a pages 0 low high page rowid
  pub seen : IsSeen g s a pages 0 page

pub at_row : {P : Type 0} (g : Ghosts P) → HaveLaws g → (s a : P) (pages : Paging) (low high page : ℕ) (rowid : ℤ) (found : Found) (Q : ℕ → Type 0) (height : ℕ)
    → IsLooked g s a pages page rowid (Row found) → IsPlaceFor g s pages height low high page rowid → (IsAtRow g s a pages low high page rowid → Q 0) → Q height
at_row g laws s a pages low high page rowid found Q zero looked placed go =
    let seen = tree_seen g laws s a pages 0 low high page rowid placed looked.shifts in
    go (record {
      placed = record {
        ready = seen.ready;
        tree = is_so g s a pages (λ u p. IsTree u p 0 low high page) looked.reads placed.tree;
        held = is_so g s a pages (λ u p. AreHeld g a pages (all_pages u p 0 page)) looked.reads (seen.held placed.held);
        later = is_so g s a pages (λ u p. times 1 (all_pages u p 0 page) ≡ 0) looked.reads placed.later;
        from = placed.from;
        to = placed.to;
      };
      seen = seen;
    })
at_row g laws s a pages low high page rowid found Q (suc h) looked placed go =
    absurd (no_leaf (interior_leads (g.used s) (sight g s pages) h low high page rowid (Row found) looked.leads placed.tree).0)

-- a leaf that lost the row
pub takes_row : {P : Type 0} (g : Ghosts P) (a e : P) (pages : Paging) (low high page : ℕ) (rowid : ℤ) (cells : List Cell)
    → DropsCell g a e pages 0 low high page rowid cells → TakesRow g a e pages 0 low high page rowid
takes_row g a e pages low high page rowid cells drops = record { loses = drops.loses; filled = λ has. has }

abbrev run_with : List Cell → ℕ → Run
run_with cells right = record { cells = cells; right = right }

-- a child alone in its own place
pub alone_child : (place : Place) (child : ℕ) → with_run place (alone child) ≡ with_child place child
alone_child (inner before c after right) child = refl
alone_child (last before) child = ap (λ (cells : List Cell). run_with cells child) (append-nil before)

-- a leaf without a cell, once the row of the tree above it is gone

abbrev left_of : List Cell → ℕ
left_of [] = 0
left_of (c ∷ cs) = c.left

abbrev tail_of : List Cell → List Cell
tail_of [] = []
tail_of (c ∷ cs) = cs

abbrev behind : Run → Run
behind run = run_with (tail_of run.cells) run.right

one_on : (n : ℕ) → n + 1 ≡ suc n
one_on n = omega arith

-- the child that stands in a rowid's place is the one in which the rowid belongs
pub child_from : (key : ℕ) (cells : List Cell) (right child : ℕ) → with_child (place_at (place_for key cells) (run_with cells right)) child ≡ run_with cells right
    → child_for key cells right ≡ child
child_from key [] right child is = sym (ap (λ (r : Run). r.right) is)
child_from key (c ∷ cs) right child is = elim (leb_tells key (rank c.key)) [
  | inl hit ↦ (let mine = rw (le-ltb (rank c.key) key hit.1) at is in rw (hit.0) (sym (ap (λ (r : Run). left_of r.cells) mine)))
  | inr miss ↦ (let mine = rw (lt-ltb (rank c.key) key miss.1, one_on (place_for key cs)) at is in
      rw (miss.0) (child_from key cs right child
      (ap behind (sym (behind_first c (take (place_for key cs) cs) (drop (place_for key cs) cs) right child) ∙ mine))))
]

module _ {P : Type 0} (g : Ghosts P) (laws : HaveLaws g) (s a : P) (pages : Paging) (h low high page : ℕ) (rowid : ℤ) (child : ℕ)
    (reads : Reads g s a) (wide : 5 ≤ g.used s) (down : IsAtChild g s a pages h low high page rowid child) where
  abbrev u : ℕ
  u = g.used a

  abbrev was : Paging
  was = sight g a pages

  abbrev place : Place
  place = place_in down.children rowid

  abbrev mine : List ℕ
  mine = all_pages u was h child

  abbrev beside : List ℕ
  beside = pages_beside u was h place

  back : AreSame (mine ++ (page ∷ beside)) (all_pages u was (suc h) page)
  back n = sym (down.has.same n)

  row_up : row_at rowid (tree_rows u was (suc h) page) ≡ row_at rowid (tree_rows u was h child)
  row_up =
      ap (row_at rowid) (down.has.held_by.rows ∙ ap (rows_in u was h) (sym down.up.is_child))
      ∙ laws.row u was h low high place child rowid down.has.was down.has.from down.up.under

  pub absent_below : (e : P) → IsAbsent g a e pages h child rowid → IsAbsent g s e pages (suc h) page rowid
  absent_below e is =
      absent_seen g laws s a e pages (suc h) page rowid reads down.seen (record {
        absent = row_up ∙ is.absent;
        shifts = laws.alike a e pages (mine ++ (page ∷ beside)) (mine ++ (page ∷ beside)) (all_pages u was (suc h) page) (all_pages u was (suc h) page) 0 back back
            (laws.beside a e pages mine mine (page ∷ beside) 0 is.shifts);
      })

  pub fails_below : (e : P) → Spares g a e pages mine 0 → Spares g s e pages (all_pages (g.used s) (sight g s pages) (suc h) page) 0
  fails_below e fails =
      fails_seen g laws s a e pages (suc h) page reads down.seen (spares_up g laws a e pages h low high page rowid down.children child 0 down.has fails)

  module _ (gone : RowIsTaken) (e : P) (takes : TakesRow g a e pages h (low_at low place) (high_at high place) child rowid) where
    abbrev now : Paging
    now = sight g e pages

    lacks : Lacks (mine ++ (page ∷ beside)) 1
    lacks = sym (down.has.same 1) ∙ down.up.placed.later

    kept : AreKept was now (page ∷ beside)
    kept = others_kept g a e pages mine (page ∷ beside) 0 down.has.held lacks takes.loses.shifts.spares

    grows : RunGrows u was now h low high place child (alone child)
    grows = laws.grows u was now h low high place child (alone child) (record {
      was = down.has.was;
      grown = takes.loses.tree;
      last = (let from = down.has.from in let to = down.up.under in omega (arith, from, to));
      others = λ n some. kept n (omega (arith, some));
    })

    same : with_run place (alone child) ≡ down.children
    same = alone_child place child ∙ down.up.is_child

    holds : HoldsRun u now page down.children
    holds = holder_kept u was now page down.children (kept page (let e = here page page beside refl in omega (arith, e))) down.up.holds

    holder : IsHolder u now h low high page down.children
    holder = laws.holder u now h low high page down.children (is_so g s a pages (λ v q. 5 ≤ v) reads wide) holds (subst (IsRun u now h low high) same grows.is)

    rows : rows_in u now h down.children ≡ without_row rowid (tree_rows u was (suc h) page)
    rows =
        ap (rows_in u now h) (sym same)
        ∙ gone (low_at low place) (high_at high place) (tree_rows u was h child) (rows_in u now h (alone child)) (rows_in u was h (with_child place child))
        (rows_in u now h (with_run place (alone child))) rowid grows.rows down.has.from down.up.under takes.loses.rows
        ∙ ap (without_row rowid) (ap (rows_in u was h) down.up.is_child ∙ sym down.has.held_by.rows)

    all_are : AreSame (all_pages u now h child ++ (page ∷ beside)) (all_pages u now (suc h) page)
    all_are n =
        let whole = ap (times n) holder.pages_are in
        let run = ap (λ (r : Run). times n (pages_in u now h r)) same in
        let parts = grows.pages_are n in
        omega (arith, whole, run, parts, times-append n (all_pages u now h child) beside, times-append n (all_pages u now h child) (page ∷ beside))

    filled : HasCells u was (suc h) page → HasCells u now (suc h) page
    filled has =
        let below = down.has.held_by.filled has in
        let were : AreFilledBelow u was h (with_child place child) = subst (AreFilledBelow u was h) (sym down.up.is_child) below.1 in
        holder.filled below.0 (subst (AreFilledBelow u now h) same (grows.filled were (takes.filled (down.has.one.filled were))))

    pub takes_below : TakesRow g s e pages (suc h) low high page rowid
    takes_below =
        takes_seen g laws s a e pages (suc h) low high page rowid reads down.seen (record {
          loses = record {
            payload = takes.loses.payload;
            present = row_up ∙ takes.loses.present;
            tree = holder.tree;
            rows = holder.rows ∙ rows;
            shifts = laws.alike a e pages (mine ++ (page ∷ beside)) (all_pages u now h child ++ (page ∷ beside)) (all_pages u was (suc h) page) (all_pages u now (suc h) page) 0 back all_are
                (laws.beside a e pages mine (all_pages u now h child) (page ∷ beside) 0 takes.loses.shifts);
          };
          filled = filled;
        })

    -- the child is a leaf without a cell now
    module _ (placed : IsPlaceFor g s pages (suc h) low high page rowid) (bare : IsBare g a e pages h child) where
      taken : TakesRow g s e pages (suc h) low high page rowid
      taken = takes_below

      used : g.used e ≡ g.used s
      used = taken.loses.shifts.spares.sizes.used

      used_a : g.used e ≡ u
      used_a = takes.loses.shifts.spares.sizes.used

      pub place_then : IsPlaceFor g e pages (suc h) low high page rowid
      place_then = record {
        ready = taken.loses.shifts.ready;
        tree = subst (λ (v : ℕ). IsTree v now (suc h) low high page) (sym used) taken.loses.tree;
        held = subst (λ (v : ℕ). AreHeld g e pages (all_pages v now (suc h) page)) (sym used) (taken.loses.shifts.held placed.held);
        later = subst (λ (v : ℕ). Lacks (all_pages v now (suc h) page) 1) (sym used) (taken.loses.shifts.front placed.later);
        from = placed.from;
        to = placed.to;
      }

      pub bare_then : HasEmptyLeaf g e pages (suc h) page child rowid
      bare_then = record {
        level = ap suc bare.leaf;
        leads = subst (λ (v : ℕ). child_for (rank rowid) (node_cells v now page) (node_right v now page) ≡ child) (sym used_a)
            (ap (λ (r : Reading). child_for (rank rowid) (cells_in r) (right_in r)) holds.node ∙ child_from (rank rowid) down.children.cells down.children.right child down.up.is_child);
        empty = subst (λ (v : ℕ). node_cells v now child ≡ []) (sym used_a) bare.empty;
      }

pub low_two : (h : ℕ) → h ≡ 0 → suc h < 2
low_two h is = omega (arith, is)

-- the tree without the row, whose leaf went then
pub takes_less : {P : Type 0} (g : Ghosts P) → HaveLaws g → (s m e : P) (pages : Paging) (height low high page : ℕ) (rowid : ℤ) (run : Run)
    → TakesRow g s m pages height low high page rowid → DropsChild g m e pages height low high page run → TakesRow g s e pages height low high page rowid
takes_less g laws s m e pages height low high page rowid run taken drops =
    let u = g.used s in
    let p = sight g s pages in
    let q = sight g m pages in
    let r = sight g e pages in
    let used : g.used m ≡ u = taken.loses.shifts.spares.sizes.used in
    let rows = subst (λ (v : ℕ). tree_rows v r height page ≡ tree_rows v q height page) used drops.rows in
    let then_ = subst (λ (v : ℕ). Shifts g m e pages (all_pages v q height page) (all_pages v r height page) 0) used drops.shifts in
    record {
      loses = record {
        payload = taken.loses.payload;
        present = taken.loses.present;
        tree = subst (λ (v : ℕ). IsTree v r height low high page) used drops.tree;
        rows = rows ∙ taken.loses.rows;
        shifts = laws.both s m e pages (all_pages u p height page) (all_pages u q height page) (all_pages u r height page) 0 0 taken.loses.shifts then_;
      };
      filled = λ has. subst (λ (v : ℕ). HasCells v q height page → HasCells v r height page) used drops.filled (taken.filled has);
    }

-- the same, where nothing was changed then
pub takes_kept : {P : Type 0} (g : Ghosts P) → HaveLaws g → (s m e : P) (pages : Paging) (height low high page : ℕ) (rowid : ℤ)
    → TakesRow g s m pages height low high page rowid → Reads g m e → KeepsLeaf g m e pages height page → TakesRow g s e pages height low high page rowid
takes_kept g laws s m e pages height low high page rowid taken reads kept =
    let u = g.used s in
    let p = sight g s pages in
    let q = sight g m pages in
    let used : g.used m ≡ u = taken.loses.shifts.spares.sizes.used in
    let then_ = subst (λ (v : ℕ). Shifts g m e pages (all_pages v q height page) (all_pages v q height page) 0) used kept.shifts in
    let back : g.laid m ≡ g.laid e = sym reads.laid in
    record {
      loses = record {
        payload = taken.loses.payload;
        present = taken.loses.present;
        tree = subst (λ (laid : PageMap). IsTree u (lay laid pages) height low high page) back taken.loses.tree;
        rows = subst (λ (laid : PageMap). tree_rows u (lay laid pages) height page ≡ without_row rowid (tree_rows u p height page)) back taken.loses.rows;
        shifts = subst (λ (laid : PageMap). Shifts g s e pages (all_pages u p height page) (all_pages u (lay laid pages) height page) 0) back
            (laws.both s m e pages (all_pages u p height page) (all_pages u q height page) (all_pages u q height page) 0 0 taken.loses.shifts then_);
      };
      filled = subst (λ (laid : PageMap). HasCells u p height page → HasCells u (lay laid pages) height page) back taken.filled;
    }

-- a leaf that could not go then
pub fails_then : {P : Type 0} (g : Ghosts P) → HaveLaws g → (s m e : P) (pages : Paging) (height low high page : ℕ) (rowid : ℤ)
    → TakesRow g s m pages height low high page rowid → Spares g m e pages (all_pages (g.used m) (sight g m pages) height page) 0
    → Spares g s e pages (all_pages (g.used s) (sight g s pages) height page) 0
fails_then g laws s m e pages height low high page rowid taken fails =
    let used : g.used m ≡ g.used s = taken.loses.shifts.spares.sizes.used in
    laws.fails s m e pages (all_pages (g.used s) (sight g s pages) height page) (all_pages (g.used s) (sight g m pages) height page) 0 0 taken.loses.shifts
    (subst (λ (v : ℕ). Spares g m e pages (all_pages v (sight g m pages) height page) 0) used fails)

-- the leaf that lost its last row
pub bare_row : {P : Type 0} (g : Ghosts P) (s a e : P) (pages : Paging) (low high page : ℕ) (rowid : ℤ) (cells : List Cell)
    → Reads g s a → DropsCell g a e pages 0 low high page rowid cells → cells ≡ [] → IsBare g s e pages 0 page
bare_row g s a e pages low high page rowid cells reads drops none = record {
  leaf = refl;
  empty = subst (λ (v : ℕ). node_cells v (sight g e pages) page ≡ []) reads.used (ap cells_in drops.node ∙ none);
}
