-- The leaf that each row of a walk was read from, whatever the pages below the space are, as long as they agree with all that
-- was given; also where no tree stands.
use Rattle.std.specs.Prelude.{◌≡◌, ◌⊎◌, ℕ, List, Option, Result, Ok, OnOk, IfOk}
use Rattle.std.specs.List.{Contains}
use Rattle.spe_model.specs.declared.page.Kind.TheVariants.{TableLeaf}
use Rattle.spe_model.specs.declared.page.Cell.{Cell}
use Rattle.spe_model.specs.Chain.{IsChain}
use Rattle.spe_model.specs.Paging.{Paging, Agrees}
use Rattle.spe_model.specs.Tree.{header_end, payload_of, rest_of}
use Rattle.spe_space.specs.Calls.{sight}
use Rattle.spe_space.specs.declared.pages.Pages.{Ghosts}
use Rattle.spe_space.specs.declared.fault.TreeFault.{TreeFault}
use Rattle.spe_format.specs.View.{Shown, shown_at}
use Rattle.spe_search.specs.declared.pairs.Pair.{Pair}
use Rattle.spe_search.specs.Found.{IsReached, used_of}
use Rattle.spe_search.specs.Step.{HasCell}

-- the row of a cell of this leaf
pub record IsRowOf (usable : ℕ) (pages : Paging) (leaf : ℕ) (c : Cell) (row : Pair) : Type 0 where
  pub leaf_is : row.leaf ≡ leaf
  pub rowid_is : row.rowid ≡ c.key
  pub payload_is : IsChain usable pages (rest_of c) c.chain → row.payload ≡ payload_of usable pages c

-- the row of some cell that is shown
abbrev pub IsRowIn : (usable : ℕ) (pages : Paging) (leaf : ℕ) (shown : List (Option Cell)) (row : Pair) → Type 0
IsRowIn usable pages leaf shown row = (c : Cell) × HasCell shown c × IsRowOf usable pages leaf c row

-- the page is a leaf of a table, and shows the row
pub record IsRowAt (usable : ℕ) (pages : Paging) (leaf : ℕ) (row : Pair) : Type 0 where
  pub shown : Shown
  pub is : shown_at (used_of usable pages leaf) (header_end leaf) ≡ Ok shown
  pub kind : shown.kind ≡ TableLeaf
  pub inside : IsRowIn usable pages leaf shown.cells row

-- the leaf of the row is met on a walk of fewer than so many levels, and shows it
pub record IsRead (usable : ℕ) (pages : Paging) (levels page : ℕ) (row : Pair) : Type 0 where
  pub reached : IsReached usable pages levels page row.leaf
  pub shown : IsRowAt usable pages row.leaf row

-- each row that is added is such a one
abbrev pub Joins : (What : Pair → Type 0) (old new : List Pair) → Type 0
Joins What old new = (row : Pair) → Contains new row → Contains old row ⊎ What row

-- the row of a cell is taken
abbrev pub TakesRow : {P X : Type 0} (g : Ghosts P) (early late : P) (page : ℕ) (c : Cell) (old new : List Pair) (result : Result X TreeFault) → Type 0
TakesRow g early late page c old new result =
    (pages : Paging) → Agrees pages (g.seen late) → OnOk result (Joins (IsRowOf (g.used early) (sight g early pages) page c) old new)

-- rows of the cells of a leaf
abbrev pub HasTaken : {P : Type 0} (g : Ghosts P) (early late : P) (page : ℕ) (shown : List (Option Cell)) (old new : List Pair) → Type 0
HasTaken g early late page shown old new =
    (pages : Paging) → Agrees pages (g.seen late) → Joins (IsRowIn (g.used early) (sight g early pages) page shown) old new

abbrev pub TakesRows : {P X : Type 0} (g : Ghosts P) (early late : P) (page : ℕ) (shown : List (Option Cell)) (old new : List Pair) (result : Result X TreeFault) → Type 0
TakesRows g early late page shown old new result = OnOk result (HasTaken g early late page shown old new)

-- the rows of a page, where it is a leaf of a table
abbrev pub HasVisited : {P : Type 0} (g : Ghosts P) (early late : P) (page : ℕ) (old new : List Pair) → Type 0
HasVisited g early late page old new = (pages : Paging) → Agrees pages (g.seen late) → Joins (IsRowAt (g.used early) (sight g early pages) page) old new

abbrev pub TakesVisit : {P X : Type 0} (g : Ghosts P) (early late : P) (page : ℕ) (old new : List Pair) (result : Result X TreeFault) → Type 0
TakesVisit g early late page old new result = OnOk result (HasVisited g early late page old new)

abbrev pub HasRead : {P : Type 0} (g : Ghosts P) (early late : P) (page levels : ℕ) (old new : List Pair) → Type 0
HasRead g early late page levels old new = (pages : Paging) → Agrees pages (g.seen late) → Joins (IsRead (g.used early) (sight g early pages) levels page) old new

abbrev pub TakesWalk : {P X : Type 0} (g : Ghosts P) (early late : P) (page levels : ℕ) (old new : List Pair) (result : Result X TreeFault) → Type 0
TakesWalk g early late page levels old new result = OnOk result (HasRead g early late page levels old new)

-- each row of the answer is shown by its leaf, which is met on a walk from the root
abbrev pub TellsLeaves : {P : Type 0} (g : Ghosts P) (early late : P) (root : ℕ) (result : Result (List Pair) TreeFault) → Type 0
TellsLeaves g early late root result =
    IfOk result (λ rows. (pages : Paging) → Agrees pages (g.seen late) → (row : Pair) → Contains rows row → IsRead (g.used early) (sight g early pages) 20 root row)
