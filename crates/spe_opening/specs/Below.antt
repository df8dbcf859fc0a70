-- What is read of the trees of tables, whatever the pages below the space are, as long as they agree with all that was
-- given.
use Rattle.std.specs.Prelude.{◌≡◌, ◌≢◌, ℕ, List, [], ◌∷◌, Option, Some, None, Result, Ok, Err, All, is_some}
use Rattle.spe_model.specs.declared.catalog.Entry.{Entry}
use Rattle.spe_model.specs.declared.page.Cell.{Cell}
use Rattle.spe_model.specs.declared.page.Kind.TheVariants.{TableInterior}
use Rattle.spe_model.specs.declared.page.PageCells.{PageCells}
use Rattle.spe_model.specs.Paging.{Paging, Agrees}
use Rattle.spe_model.specs.Served.{HasCells}
use Rattle.spe_model.specs.Standing.{Whether, all_pages}
use Rattle.spe_model.specs.Tree.{IsNode, IsTree, IsTableTree, node_at, node_cells}
use Rattle.spe_space.specs.Calls.{sight}
use Rattle.spe_space.specs.Outcome.{IsInside, OnPageOut}
use Rattle.spe_space.specs.declared.pages.Pages.{Ghosts}
use Rattle.spe_space.specs.declared.fault.TreeFault.{TreeFault}
use Rattle.spe_space.specs.declared.fault.TreeFault.TheVariants.{Space, Corrupt}

-- an interior page of a table, other than page 1, without a cell
pub record IsBare (usable : ℕ) (pages : Paging) (page : ℕ) : Type 0 where
  pub later : page ≢ 1
  pub interior : IsNode TableInterior usable pages page
  pub empty : node_cells usable pages page ≡ []

-- a tree with all leaves so many levels below a page, all of whose pages are among so many
pub record StandsBelow (usable count : ℕ) (pages : Paging) (height page : ℕ) : Type 0 where
  pub low : ℕ
  pub high : ℕ
  pub tree : IsTree usable pages height low high page
  pub within : All (IsInside count) (all_pages usable pages height page)

-- whatever the pages are below the space: where such a tree stands below a page
abbrev pub WhereStands : {P : Type 0} (g : Ghosts P) (early late : P) (page : ℕ) → ((count : ℕ) → Paging → (height : ℕ) → Type 0) → Type 0
WhereStands g early late page What =
    (pages : Paging) → Agrees pages (g.seen late) → (count height : ℕ) → StandsBelow (g.used early) count (sight g early pages) height page
    → What count (sight g early pages) height

-- what a page holds, or why it is not told
abbrev pub IsNodeRead : (usable : ℕ) → Paging → (page : ℕ) → Result PageCells TreeFault → Type 0
IsNodeRead usable pages page (Ok node) = node_at usable pages page ≡ Ok node
IsNodeRead usable pages page (Err (Space f)) = OnPageOut (λ at. at ≡ page) f
IsNodeRead usable pages page (Err (Corrupt at)) = (node : PageCells) → node_at usable pages page ≡ Ok node → ⊥

abbrev pub ReadsNode : {P : Type 0} (g : Ghosts P) (early late : P) (page : ℕ) (result : Result PageCells TreeFault) → Type 0
ReadsNode g early late page result = (pages : Paging) → Agrees pages (g.seen late) → IsNodeRead (g.used early) (sight g early pages) page result

-- the left-most child
abbrev pub first_child : List Cell → (right : ℕ) → ℕ
first_child [] right = right
first_child (c ∷ cs) right = c.left

-- all children, the right-most last
abbrev pub children : List Cell → (right : ℕ) → List ℕ
children [] right = right ∷ []
children (c ∷ cs) right = c.left ∷ children cs right

-- what an interior page of a table has, and any other page has not
abbrev pub IsFirst : PageCells → Option ℕ → Type 0
IsFirst node None = node.kind ≢ TableInterior
IsFirst node (Some child) = (node.kind ≡ TableInterior) × (child ≡ first_child node.cells node.right)

-- the levels below a page, or a refusal for one of so many pages
abbrev pub IsHeight : (count height : ℕ) → Result ℕ TreeFault → Type 0
IsHeight count height (Ok levels) = levels ≡ height
IsHeight count height (Err (Space f)) = OnPageOut (IsInside count) f
IsHeight count height (Err (Corrupt at)) = ⊥

-- the fact is true, or the space refused one of so many pages; or a page is bare, and the fact is not true
abbrev pub Tests : {X : Type 0} (usable count : ℕ) → Paging → Type 0 → Result X TreeFault → Type 0
Tests usable count pages Fact (Ok x) = Fact
Tests usable count pages Fact (Err (Space f)) = OnPageOut (IsInside count) f
Tests usable count pages Fact (Err (Corrupt at)) = IsBare usable pages at × (Fact → ⊥)

-- the tree of a table under its root, all of whose pages are among so many
pub record StandsUnder (usable count : ℕ) (pages : Paging) (root : ℕ) : Type 0 where
  pub height : ℕ
  pub tree : IsTableTree usable pages height root
  pub within : All (IsInside count) (all_pages usable pages height root)

-- each interior page of the tree of a table has a cell
abbrev pub IsFilledUnder : (usable : ℕ) → Paging → (root : ℕ) → Type 0
IsFilledUnder usable pages root = (height : ℕ) → IsTableTree usable pages height root → HasCells usable pages height root

-- the same of a table, which need have a tree only where it is open
abbrev pub IsEntryStanding : (usable count : ℕ) → Paging → Entry → Type 0
IsEntryStanding usable count pages entry = Whether (is_some entry.table.closed) (Unit {0}) (StandsUnder usable count pages entry.root)

abbrev pub IsEntryFilled : (usable : ℕ) → Paging → Entry → Type 0
IsEntryFilled usable pages entry = Whether (is_some entry.table.closed) (Unit {0}) (IsFilledUnder usable pages entry.root)

-- whatever the pages are below the space
abbrev pub TestsTable : {P X : Type 0} (g : Ghosts P) (early late : P) (root : ℕ) (result : Result X TreeFault) → Type 0
TestsTable g early late root result =
    (pages : Paging) → Agrees pages (g.seen late) → (count : ℕ) → StandsUnder (g.used early) count (sight g early pages) root
    → Tests (g.used early) count (sight g early pages) (IsFilledUnder (g.used early) (sight g early pages) root) result

abbrev pub TestsEntry : {P X : Type 0} (g : Ghosts P) (early late : P) (entry : Entry) (result : Result X TreeFault) → Type 0
TestsEntry g early late entry result =
    (pages : Paging) → Agrees pages (g.seen late) → (count : ℕ) → IsEntryStanding (g.used early) count (sight g early pages) entry
    → Tests (g.used early) count (sight g early pages) (IsEntryFilled (g.used early) (sight g early pages) entry) result

abbrev pub TestsEntries : {P X : Type 0} (g : Ghosts P) (early late : P) (entries : List Entry) (result : Result X TreeFault) → Type 0
TestsEntries g early late entries result =
    (pages : Paging) → Agrees pages (g.seen late) → (count : ℕ) → All (IsEntryStanding (g.used early) count (sight g early pages)) entries
    → Tests (g.used early) count (sight g early pages) (All (IsEntryFilled (g.used early) (sight g early pages)) entries) result
