-- What a search for the last row answers, whatever the pages below the space are, as long as they agree with all that was
-- given.
use Rattle.std.specs.Prelude.{◌≡◌, ◌⊎◌, ℕ, zero, suc, ℤ, ◌<◌, ◌≤◌, List, map, length, take, Option, Some, None, Result, Ok, Err, IfErr, slice_index_or}
use Rattle.std.specs.List.{Contains, last_or}
use Rattle.std.specs.Option.{option_map_or}
use Rattle.spe_model.specs.declared.page.Kind.TheVariants.{TableLeaf, TableInterior}
use Rattle.spe_model.specs.declared.page.Cell.{Cell}
use Rattle.spe_model.specs.declared.page.PageCells.{PageCells}
use Rattle.spe_model.specs.Paging.{Paging, Agrees}
use Rattle.spe_model.specs.Tree.{rank, header_end, AreUnder, IsTree, IsTableTree, fan, tree_rows, node_at, node_cells, node_right}
use Rattle.spe_model.specs.Range.{touched}
use Rattle.spe_space.specs.Calls.{sight}
use Rattle.spe_space.specs.Found.{Answers, OnMissing}
use Rattle.spe_space.specs.declared.pages.Pages.{Ghosts}
use Rattle.spe_space.specs.declared.fault.TreeFault.{TreeFault}
use Rattle.spe_space.specs.declared.fault.TreeFault.TheVariants.{Space, Corrupt}
use Rattle.spe_format.specs.View.{Shown, shown_at}
use Rattle.spe_search.specs.declared.last.End.{End}
use Rattle.spe_search.specs.declared.last.End.TheVariants.{Rows, Children}
use Rattle.spe_search.specs.Step.{HasHole, ShowsNoTable}
use Rattle.spe_search.specs.Found.{used_of, IsFaulty, ShowsChild, IsBelow, IsReached}
use Rattle.spe_search.specs.Range.{touched_pages}

-- the rowid of the last row
abbrev pub last_rowid : List (ℤ × List ℕ) → Option ℤ
last_rowid rows = last_or None (map (λ (r : ℤ × List ℕ). r.0) rows)

-- its rank, or another number where there is no row
abbrev pub last_rank : ℕ → List (ℤ × List ℕ) → ℕ
last_rank other rows = option_map_or rank (last_rowid rows) other

-- the last rowid of the tree of a table
abbrev pub FindsLast : {P : Type 0} (g : Ghosts P) (early late : P) (root : ℕ) (result : Result (Option ℤ) TreeFault) → Type 0
FindsLast g early late root result =
    (pages : Paging) → Agrees pages (g.seen late)
    → (height : ℕ) → IsTableTree (g.used early) (sight g early pages) height root
    → Answers (λ rowid. rowid) (last_rowid (tree_rows (g.used early) (sight g early pages) height root)) result

abbrev pub LastBelow : {P : Type 0} (g : Ghosts P) (early late : P) (page levels : ℕ) (result : Result (Option ℤ) TreeFault) → Type 0
LastBelow g early late page levels result =
    (pages : Paging) → Agrees pages (g.seen late) → (height a b : ℕ) → height < levels → IsTree (g.used early) (sight g early pages) height a b page
    → Answers (λ rowid. rowid) (last_rowid (tree_rows (g.used early) (sight g early pages) height page)) result

-- why a page is called corrupt where no chain is read
abbrev pub HasPageCause : {X : Type 0} (usable : ℕ) (pages : Paging) (page levels : ℕ) → Result X TreeFault → Type 0
HasPageCause usable pages page levels (Ok found) = Unit {0}
HasPageCause usable pages page levels (Err (Space f)) = Unit {0}
HasPageCause usable pages page levels (Err (Corrupt at)) = (IsReached usable pages levels page at × IsFaulty usable pages at) ⊎ IsBelow usable pages levels page at

-- Corrupt comes only where that page is met and breaks a rule, or lies below the last level
abbrev pub NamesPage : {P X : Type 0} (g : Ghosts P) (early late : P) (page levels : ℕ) (result : Result X TreeFault) → Type 0
NamesPage g early late page levels result =
    (pages : Paging) → Agrees pages (g.seen late) → HasPageCause (g.used early) (sight g early pages) page levels result

-- each page that is given for the first time is one that a walk from the last row to the end touches; of a tree without
-- rows, from its beginning
abbrev pub AddsOfLast : {P : Type 0} (g : Ghosts P) (early late : P) (root : ℕ) → Type 0
AddsOfLast g early late root =
    (pages : Paging) → Agrees pages (g.seen late)
    → (height : ℕ) → IsTableTree (g.used early) (sight g early pages) height root
    → (n : ℕ) → (g.seen late n ≡ g.seen early n)
    ⊎ Contains (touched_pages (g.used early) (sight g early pages) (last_rank 0 (tree_rows (g.used early) (sight g early pages) height root)) 18446744073709551616 height root) n

abbrev pub AddsAtEnd : {P : Type 0} (g : Ghosts P) (early late : P) (page levels : ℕ) → Type 0
AddsAtEnd g early late page levels =
    (pages : Paging) → Agrees pages (g.seen late) → (height a b from to : ℕ) → height < levels → IsTree (g.used early) (sight g early pages) height a b page
    → from ≤ last_rank a (tree_rows (g.used early) (sight g early pages) height page) → b ≤ to
    → (n : ℕ) → (g.seen late n ≡ g.seen early n) ⊎ Contains (touched_pages (g.used early) (sight g early pages) from to height page) n

-- a page that is asked for and is none of the space's is one that such a walk touches
abbrev pub MissesInLast : {P X : Type 0} (g : Ghosts P) (early late : P) (root : ℕ) (result : Result X TreeFault) → Type 0
MissesInLast g early late root result =
    (pages : Paging) → Agrees pages (g.seen late)
    → (height : ℕ) → IsTableTree (g.used early) (sight g early pages) height root
    → IfErr result (OnMissing
    (Contains (touched_pages (g.used early) (sight g early pages) (last_rank 0 (tree_rows (g.used early) (sight g early pages) height root)) 18446744073709551616 height root)))

abbrev pub MissesAtEnd : {P X : Type 0} (g : Ghosts P) (early late : P) (page levels : ℕ) (result : Result X TreeFault) → Type 0
MissesAtEnd g early late page levels result =
    (pages : Paging) → Agrees pages (g.seen late) → (height a b from to : ℕ) → height < levels → IsTree (g.used early) (sight g early pages) height a b page
    → from ≤ last_rank a (tree_rows (g.used early) (sight g early pages) height page) → b ≤ to
    → IfErr result (OnMissing (Contains (touched_pages (g.used early) (sight g early pages) from to height page)))

abbrev pub last_key : List Cell → Option ℤ
last_key cells = last_or None (map (λ (c : Cell). c.key) cells)

abbrev pub EndsLeaf : List (Option Cell) → Option End → Type 0
EndsLeaf shown None = HasHole shown
EndsLeaf shown (Some (Rows last)) = (cells : List Cell) → shown ≡ map Some cells → last ≡ last_key cells
EndsLeaf shown (Some (Children before right)) = ⊥

-- what stands at the end of a page
abbrev pub FindsEnd : Shown → Option End → Type 0
FindsEnd shown None = ShowsNoTable shown
FindsEnd shown (Some (Rows last)) = (shown.kind ≡ TableLeaf) × ((cells : List Cell) → shown.cells ≡ map Some cells → last ≡ last_key cells)
FindsEnd shown (Some (Children before right)) = (shown.kind ≡ TableInterior) × (before ≡ length shown.cells) × (right ≡ shown.right)

abbrev pub FindsLeft : List (Option Cell) → ℕ → Option ℕ → Type 0
FindsLeft shown place None = place < length shown → HasHole shown
FindsLeft shown place (Some child) = (place < length shown) × ((c : Cell) × (slice_index_or shown place None ≡ Some c) × (child ≡ c.left))

-- so many cells at least are shown by a page
pub record ShowsCells (usable : ℕ) (pages : Paging) (page count : ℕ) : Type 0 where
  pub shown : Shown
  pub is : shown_at (used_of usable pages page) (header_end page) ≡ Ok shown
  pub some : count ≤ length shown.cells

pub record ShowsFewer (usable : ℕ) (pages : Paging) (page count : ℕ) : Type 0 where
  pub shown : Shown
  pub is : shown_at (used_of usable pages page) (header_end page) ≡ Ok shown
  pub fewer : length shown.cells < count

abbrev pub IsEnd : (usable : ℕ) (pages : Paging) (page : ℕ) → Result End TreeFault → Type 0
IsEnd usable pages page (Ok (Rows last)) = (cells : PageCells) → node_at usable pages page ≡ Ok cells → (cells.kind ≡ TableLeaf) × (last ≡ last_key cells.cells)
IsEnd usable pages page (Ok (Children before right)) =
    ShowsChild usable pages page right × ShowsCells usable pages page before
    × ((cells : PageCells) → node_at usable pages page ≡ Ok cells → (cells.kind ≡ TableInterior) × (before ≡ length cells.cells) × (right ≡ cells.right))
IsEnd usable pages page (Err (Space f)) = Unit {0}
IsEnd usable pages page (Err (Corrupt at)) = (at ≡ page) × IsFaulty usable pages page

abbrev pub GivesEnd : {P : Type 0} (g : Ghosts P) (early late : P) (page : ℕ) (result : Result End TreeFault) → Type 0
GivesEnd g early late page result = (pages : Paging) → Agrees pages (g.seen late) → IsEnd (g.used early) (sight g early pages) page result

abbrev pub IsLeft : (usable : ℕ) (pages : Paging) (page place : ℕ) → Result ℕ TreeFault → Type 0
IsLeft usable pages page place (Ok child) =
    ShowsChild usable pages page child × ShowsCells usable pages page place
    × ((cells : PageCells) → node_at usable pages page ≡ Ok cells → (d : Cell) → (slice_index_or cells.cells place d).left ≡ child)
IsLeft usable pages page place (Err (Space f)) = Unit {0}
IsLeft usable pages page place (Err (Corrupt at)) = (at ≡ page) × (IsFaulty usable pages page ⊎ ShowsFewer usable pages page (suc place))

abbrev pub GivesLeft : {P : Type 0} (g : Ghosts P) (early late : P) (page place : ℕ) (result : Result ℕ TreeFault) → Type 0
GivesLeft g early late page place result = (pages : Paging) → Agrees pages (g.seen late) → IsLeft (g.used early) (sight g early pages) page place result

-- in a loop over the children of a page from the last on: what is left of the tree without those that have no rows
pub record IsCutTree (usable : ℕ) (pages : Paging) (height a b page before child : ℕ) : Type 0 where
  pub high : ℕ
  pub within : high ≤ b
  pub some : before ≤ length (node_cells usable pages page)
  pub under : AreUnder (IsTree usable pages height) a high (take before (node_cells usable pages page)) child
  pub rows : tree_rows usable pages (suc height) page ≡ fan (tree_rows usable pages height) (take before (node_cells usable pages page)) child
  pub touches : (from to : ℕ) → from ≤ last_rank a (tree_rows usable pages (suc height) page) → b ≤ to
      → Contains (touched from to (node_cells usable pages page) (node_right usable pages page)) child

pub record IsCutOff (usable : ℕ) (pages : Paging) (page levels before child : ℕ) : Type 0 where
  pub shown : ShowsChild usable pages page child
  pub cells : ShowsCells usable pages page before
  pub leaf : (a b : ℕ) → IsTree usable pages zero a b page → ⊥
  pub tree : (height a b : ℕ) → suc height < levels → IsTree usable pages (suc height) a b page → IsCutTree usable pages height a b page before child

abbrev pub HasCut : {P : Type 0} (g : Ghosts P) (early now : P) (page levels before child : ℕ) → Type 0
HasCut g early now page levels before child = (pages : Paging) → Agrees pages (g.seen now) → IsCutOff (g.used early) (sight g early pages) page levels before child
