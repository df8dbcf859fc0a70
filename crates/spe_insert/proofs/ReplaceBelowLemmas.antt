-- A row that is looked for on the way down, and is there or not.
use Rattle.std.proofs.Common.{◌≡◌, ℕ, zero, suc, ℤ, ◌∙◌, List, ◌∷◌, ◌++◌, None, Option, is_some, true, sym, ap}
use Rattle.spe_model.specs.Paging.{Paging}
use Rattle.spe_model.specs.Standing.{all_pages}
use Rattle.spe_model.specs.Tree.{node_cells, row_at, tree_rows}
use Rattle.spe_space.specs.declared.pages.Pages.{Ghosts}
use Rattle.spe_space.specs.Calls.{Reads, sight}
use Rattle.spe_frame.specs.Held.{Shifts}
use Rattle.spe_frame.specs.Times.{AreSame}
use Rattle.spe_cut.specs.Run.{Run, pages_beside}
use Rattle.spe_search.specs.declared.page.Found.{Found}
use Rattle.spe_search.specs.declared.page.Step.TheVariants.{Missing, Row}
use Rattle.spe_search.proofs.FoundLemmas.{interior_leads, leaf_leads, no_leaf}
use Rattle.spe_search.proofs.TreeLemmas.{row_found, row_missing}
use Rattle.spe_insert.specs.Below.{IsPlaceFor}
use Rattle.spe_insert.specs.Laws.{HaveLaws}
use Rattle.spe_insert.specs.Replace.{HasRow, IsUnmatched}
use Rattle.spe_insert.specs.Step.{place_in}
use Rattle.spe_insert.proofs.LookLemmas.{IsAtChild, IsLooked, placed_seen, seen_same, tree_seen, was_same}
use Rattle.spe_insert.proofs.PutBelowLemmas.{HasChild, IsUpper, row_up}

-- a leaf with the row after it was got
pub record IsAtRow {P : Type 0} (g : Ghosts P) (s a : P) (pages : Paging) (low high page : ℕ) (rowid : ℤ) : Type 0 where
  pub placed : IsPlaceFor g a pages 0 low high page rowid
  pub present : HasRow g a pages 0 page rowid
  pub seen : Shifts g s a pages (all_pages (g.used s) (sight g s pages) 0 page) (all_pages (g.used s) (sight g s pages) 0 page) 0

-- where the row is found, the page is a leaf
pub at_row : {P : Type 0} (g : Ghosts P) → HaveLaws g → (s a : P) (pages : Paging) (low high page : ℕ) (rowid : ℤ) (found : Found) (Q : ℕ → Type 0) (height : ℕ) → IsLooked g s a pages page rowid (Row found)
    → IsPlaceFor g s pages height low high page rowid → (IsAtRow g s a pages low high page rowid → Q 0) → Q height
at_row g laws s a pages low high page rowid found Q zero looked placed go =
    let u = g.used s in
    let p = sight g s pages in
    let seen = tree_seen g laws s a pages 0 low high page rowid placed looked.shifts in
    let lead = leaf_leads u p low high page rowid (Row found) looked.leads placed.tree in
    go (record {
      placed = placed_seen g s a pages 0 low high page rowid looked.reads placed seen;
      present = seen_same g s a pages (λ v q. is_some (row_at rowid (tree_rows v q 0 page)) ≡ true) looked.reads
          (ap (λ (o : Option (List ℕ)). is_some o) (row_found u p rowid low high (node_cells u p page) found placed.tree.1 lead.1).is);
      seen = seen;
    })
at_row g laws s a pages low high page rowid found Q (suc h) looked placed go =
    absurd (no_leaf (interior_leads (g.used s) (sight g s pages) h low high page rowid (Row found) looked.leads placed.tree).0)

-- no row is in a leaf where none is found
pub row_unmatched : {P : Type 0} (g : Ghosts P) → HaveLaws g → (s a : P) (pages : Paging) (height low high page : ℕ) (rowid : ℤ) → IsLooked g s a pages page rowid Missing
    → IsPlaceFor g s pages height low high page rowid → IsUnmatched g s a pages height page rowid
row_unmatched g laws s a pages zero low high page rowid looked placed =
    let u = g.used s in
    let p = sight g s pages in
    let lead = leaf_leads u p low high page rowid Missing looked.leads placed.tree in
    record {
      absent = row_missing u p rowid (node_cells u p page) lead.1;
      shifts = tree_seen g laws s a pages 0 low high page rowid placed looked.shifts;
    }
row_unmatched g laws s a pages (suc h) low high page rowid looked placed =
    absurd (no_leaf (interior_leads (g.used s) (sight g s pages) h low high page rowid Missing looked.leads placed.tree).0)

unmatched_seen : {P : Type 0} (g : Ghosts P) → HaveLaws g → (s a e : P) (pages : Paging) (height page : ℕ) (rowid : ℤ) → Reads g s a
    → Shifts g s a pages (all_pages (g.used s) (sight g s pages) height page) (all_pages (g.used s) (sight g s pages) height page) 0
    → IsUnmatched g a e pages height page rowid → IsUnmatched g s e pages height page rowid
unmatched_seen g laws s a e pages height page rowid reads seen x =
    let all = all_pages (g.used s) (sight g s pages) height page in
    let then_ = was_same g s a pages (λ u p. Shifts g a e pages (all_pages u p height page) (all_pages u p height page) 0) reads x.shifts in
    record {
      absent = was_same g s a pages (λ u p. row_at rowid (tree_rows u p height page) ≡ None) reads x.absent;
      shifts = laws.both s a e pages all all all 0 0 seen then_;
    }

-- the tree lacks the row that the child lacks
unmatched_up : {P : Type 0} (g : Ghosts P) → HaveLaws g → (s e : P) (pages : Paging) (h low high page : ℕ) (rowid : ℤ) (children : Run) (child : ℕ)
    → IsUpper g s pages h low high page rowid children child → HasChild g s pages h low high page rowid children child
    → IsUnmatched g s e pages h child rowid → IsUnmatched g s e pages (suc h) page rowid
unmatched_up g laws s e pages h low high page rowid children child up has none =
    let u = g.used s in
    let p = sight g s pages in
    let all = all_pages u p (suc h) page in
    let mine = all_pages u p h child in
    let others = page ∷ pages_beside u p h (place_in children rowid) in
    let back : AreSame (mine ++ others) all = λ n. sym (has.same n) in
    record {
      absent = row_up g laws s pages h low high page rowid children child up has ∙ none.absent;
      shifts = laws.alike s e pages (mine ++ others) (mine ++ others) all all 0 back back (laws.beside s e pages mine mine others 0 none.shifts);
    }

pub unmatched_below : {P : Type 0} (g : Ghosts P) → HaveLaws g → (s a e : P) (pages : Paging) (h low high page : ℕ) (rowid : ℤ) (child : ℕ)
    → Reads g s a → (down : IsAtChild g s a pages h low high page rowid child) → IsUnmatched g a e pages h child rowid → IsUnmatched g s e pages (suc h) page rowid
unmatched_below g laws s a e pages h low high page rowid child reads down none =
    unmatched_seen g laws s a e pages (suc h) page rowid reads down.seen (unmatched_up g laws a e pages h low high page rowid down.children child down.up down.has none)
