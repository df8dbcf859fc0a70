-- A leaf that gets a row.
use Rattle.std.specs.Prelude.{◌≡◌, ◌≢◌, ℕ, ℤ, ◌<◌, ◌≤◌, List, [], ◌∷◌, length, take, drop, All, Bool, false, Result, Ok, Err}
use Rattle.std.specs.Ordering.{int_eq}
use Rattle.spe_model.specs.declared.page.Cell.{Cell}
use Rattle.spe_model.specs.declared.page.Kind.TheVariants.{TableLeaf}
use Rattle.spe_model.specs.declared.page.PageCells.{PageCells}
use Rattle.spe_model.specs.declared.page.PageFault.{PageFault}
use Rattle.spe_model.specs.Page.{page_at}
use Rattle.spe_model.specs.Tree.{rank}
use Rattle.spe_space.specs.declared.fault.SpaceFault.TheVariants.{Memory}
use Rattle.spe_space.specs.declared.fault.TreeFault.{TreeFault}
use Rattle.spe_space.specs.declared.fault.TreeFault.TheVariants.{Space, Corrupt}
use Rattle.spe_format.specs.Canonical.{IsWritable}
use Rattle.spe_cut.specs.Parts.{leaf_cells, need, room}

-- the bytes of a page other than page 1 are a legal leaf with these cells, which fit it and can be written again
pub record IsLeafOf (usable : ℕ) (bytes : List ℕ) (cells : List Cell) : Type 0 where
  pub reads : page_at (take usable bytes) 0 ≡ Ok (leaf_cells cells)
  pub writable : IsWritable (leaf_cells cells) usable
  pub fits : need TableLeaf cells ≤ room TableLeaf 0 usable

-- what is read is no leaf of a table
abbrev pub IsNoLeaf : Result PageCells PageFault → Type 0
IsNoLeaf (Ok node) = node.kind ≢ TableLeaf
IsNoLeaf (Err fault) = Unit {0}

-- why no leaf is answered: there is none, or there was no memory
abbrev pub FailsLeaf : Result PageCells PageFault → TreeFault → Type 0
FailsLeaf reading (Space Memory) = Unit {0}
FailsLeaf reading (Space fault) = ⊥
FailsLeaf reading (Corrupt page) = IsNoLeaf reading

-- the first of some cells has the rowid
abbrev pub leads_with : ℤ → List Cell → Bool
leads_with rowid [] = false
leads_with rowid (c ∷ cs) = int_eq c.key rowid

-- the first of some cells, if there is one, has a rowid of at least this rank, or above it
abbrev pub IsFrom : (key : ℕ) → List Cell → Type 0
IsFrom key [] = Unit {0}
IsFrom key (c ∷ cs) = key ≤ rank c.key

abbrev pub IsAbove : (key : ℕ) → List Cell → Type 0
IsAbove key [] = Unit {0}
IsAbove key (c ∷ cs) = key < rank c.key

-- a place for a rowid of this rank: the cells before it have lower ones, and the next a higher one
pub record IsGap (key : ℕ) (cells : List Cell) (place : ℕ) : Type 0 where
  pub within : place ≤ length cells
  pub lower : All (λ (d : Cell). rank d.key < key) (take place cells)
  pub above : IsAbove key (drop place cells)
