-- Where one page leads on the way to a rowid.
use Rattle.std.specs.Prelude.{◌≡◌, ℕ, ℤ, ◌<◌, ◌≤◌, ◌⊎◌, List, length, map, Option, Some, None, Result, Ok, Err, AllPairs, slice_index_or}
use Rattle.spe_model.specs.declared.page.Kind.TheVariants.{TableLeaf, TableInterior}
use Rattle.spe_model.specs.declared.page.Cell.{Cell}
use Rattle.spe_model.specs.declared.page.PageCells.{PageCells}
use Rattle.spe_model.specs.Page.{page_at}
use Rattle.spe_model.specs.Tree.{rank, rest_of, cell_for, child_for}
use Rattle.spe_format.specs.View.{Shown, shown_at, shown_of}
use Rattle.spe_search.specs.declared.page.Found.{Found}
use Rattle.spe_search.specs.declared.page.Step.{Step}
use Rattle.spe_search.specs.declared.page.Step.TheVariants.{Missing, Row, Child}
use Rattle.spe_search.specs.declared.page.Flaw.{Flaw}
use Rattle.spe_search.specs.declared.page.Flaw.TheVariants.{Broken, Memory}

-- the rowids ascend
abbrev pub AreSorted : List Cell → Type 0
AreSorted cells = AllPairs (λ (a b : Cell). rank a.key < rank b.key) cells

-- cells before `low` are below the key, and those from `high` on are not
pub record IsBetween (key : ℕ) (cells : List Cell) (low high : ℕ) : Type 0 where
  pub below : (j : ℕ) (d : Cell) → j < low → rank (slice_index_or cells j d).key < key
  pub above : (j : ℕ) (d : Cell) → high ≤ j → j < length cells → key ≤ rank (slice_index_or cells j d).key

-- the same of the cells that a page shows, where it shows them all and they ascend
abbrev pub LiesBetween : List (Option Cell) → (key low high : ℕ) → Type 0
LiesBetween shown key low high = (cells : List Cell) → shown ≡ map Some cells → AreSorted cells → IsBetween key cells low high

-- a cell that the page shows cannot be read
abbrev pub HasHole : List (Option Cell) → Type 0
HasHole shown = (cells : List Cell) → shown ≡ map Some cells → ⊥

abbrev pub FindsPlace : List (Option Cell) → ℕ → Option ℕ → Type 0
FindsPlace shown key None = HasHole shown
FindsPlace shown key (Some place) = (place ≤ length shown) × LiesBetween shown key place place

-- a row as far as a cell has it
abbrev pub IsFoundIn : Found → Cell → Type 0
IsFoundIn found c = (found.local ≡ c.local) × (found.rest ≡ rest_of c) × (found.chain ≡ c.chain)

abbrev pub IsFound : Option Cell → Option Found → Type 0
IsFound None None = Unit {0}
IsFound None (Some found) = ⊥
IsFound (Some c) None = ⊥
IsFound (Some c) (Some found) = IsFoundIn found c

-- a cell that is shown
pub record HasCell (shown : List (Option Cell)) (c : Cell) : Type 0 where
  pub index : ℕ
  pub is : slice_index_or shown index None ≡ Some c

abbrev pub HasFound : List (Option Cell) → ℤ → Option Found → Type 0
HasFound shown rowid None = Unit {0}
HasFound shown rowid (Some found) = (c : Cell) × HasCell shown c × (c.key ≡ rowid) × IsFoundIn found c

abbrev pub FindsRow : List (Option Cell) → ℤ → Result (Option Found) Flaw → Type 0
FindsRow shown rowid (Ok found) =
    HasFound shown rowid found × ((cells : List Cell) → shown ≡ map Some cells → AreSorted cells → IsFound (cell_for rowid cells) found)
FindsRow shown rowid (Err Broken) = HasHole shown
FindsRow shown rowid (Err Memory) = Unit {0}

-- a child that is shown
abbrev pub HasChild : List (Option Cell) → (right child : ℕ) → Type 0
HasChild shown right child = (child ≡ right) ⊎ ((c : Cell) × HasCell shown c × (child ≡ c.left))

abbrev pub FindsChild : List (Option Cell) → (right key : ℕ) → Option ℕ → Type 0
FindsChild shown right key None = HasHole shown
FindsChild shown right key (Some child) =
    HasChild shown right child × ((cells : List Cell) → shown ≡ map Some cells → AreSorted cells → child ≡ child_for key cells right)

-- where a legal page of ascending rowids leads
abbrev pub Leads : PageCells → ℤ → Step → Type 0
Leads page rowid Missing = (page.kind ≡ TableLeaf) × IsFound (cell_for rowid page.cells) None
Leads page rowid (Row found) = (page.kind ≡ TableLeaf) × IsFound (cell_for rowid page.cells) (Some found)
Leads page rowid (Child child) = (page.kind ≡ TableInterior) × (child ≡ child_for (rank rowid) page.cells page.right)

-- the page shows what the step takes
abbrev pub IsShown : Shown → ℤ → Step → Type 0
IsShown shown rowid Missing = Unit {0}
IsShown shown rowid (Row found) = (shown.kind ≡ TableLeaf) × HasFound shown.cells rowid (Some found)
IsShown shown rowid (Child child) = HasChild shown.cells shown.right child

-- no legal page of a table shows this
abbrev pub ShowsNoTable : Shown → Type 0
ShowsNoTable shown = (page : PageCells) → shown ≡ shown_of page → (page.kind ≡ TableLeaf) ⊎ (page.kind ≡ TableInterior) → ⊥

abbrev pub Steps : Shown → ℤ → Result Step Flaw → Type 0
Steps shown rowid (Ok step) = IsShown shown rowid step × ((page : PageCells) → shown ≡ shown_of page → AreSorted page.cells → Leads page rowid step)
Steps shown rowid (Err Broken) = ShowsNoTable shown
Steps shown rowid (Err Memory) = Unit {0}

-- the bytes are no legal page of a table
abbrev pub IsNoTable : List ℕ → ℕ → Type 0
IsNoTable bytes at = (page : PageCells) → page_at bytes at ≡ Ok page → (page.kind ≡ TableLeaf) ⊎ (page.kind ≡ TableInterior) → ⊥

-- some bytes show what the step takes
abbrev pub Offers : List ℕ → ℕ → ℤ → Step → Type 0
Offers bytes at rowid step = (shown : Shown) × (shown_at bytes at ≡ Ok shown) × IsShown shown rowid step

abbrev pub TakesStep : List ℕ → ℕ → ℤ → Result Step Flaw → Type 0
TakesStep bytes at rowid (Ok step) = Offers bytes at rowid step × ((page : PageCells) → page_at bytes at ≡ Ok page → AreSorted page.cells → Leads page rowid step)
TakesStep bytes at rowid (Err Broken) = IsNoTable bytes at
TakesStep bytes at rowid (Err Memory) = Unit {0}
