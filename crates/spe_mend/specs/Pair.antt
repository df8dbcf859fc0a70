-- Two interior neighbours, of which one has no cell, at a bound `P: Pages`.
use Rattle.std.specs.Prelude.{◌≡◌, ◌⊎◌, ℕ, suc, ℤ, ◌≤◌, [], ◌∷◌, length, Ok}
use Rattle.spe_model.specs.declared.page.PageCells.{PageCells}
use Rattle.spe_model.specs.Paging.{Agrees, Paging}
use Rattle.spe_model.specs.Served.{HasCells}
use Rattle.spe_model.specs.Standing.{all_pages}
use Rattle.spe_model.specs.Tree.{IsTree, node_at, node_cells, tree_rows}
use Rattle.spe_space.specs.declared.pages.Pages.{Ghosts}
use Rattle.spe_space.specs.Calls.{sight}
use Rattle.spe_frame.specs.Held.{Shifts}
use Rattle.spe_cut.specs.Run.{AreFilledBelow, HoldsRun, IsOpen, IsRun, Run, pages_in, rows_in}
use Rattle.spe_cut.specs.Split.{Cut, high_half, low_half, whole}
use Rattle.spe_delete.specs.Join.{ArePair, two_pages}
use Rattle.spe_mend.specs.Thin.{children_in}

-- two pages have these cells
pub record LaysBoth {P : Type 0} (g : Ghosts P) (old new : P) (pages : Paging) (first second : ℕ) (low high : PageCells) : Type 0 where
  pub first_node : node_at (g.used old) (sight g new pages) first ≡ Ok low
  pub second_node : node_at (g.used old) (sight g new pages) second ≡ Ok high
  pub shifts : Shifts g old new pages (first ∷ second ∷ []) (first ∷ second ∷ []) 0

-- two pages hold the halves of a run, which has this key between them
pub record LaysHalves {P : Type 0} (g : Ghosts P) (old new : P) (pages : Paging) (first second : ℕ) (children : Run) (key : ℤ) : Type 0 where
  pub cut : Cut
  pub whole_is : whole cut ≡ children
  pub key_is : cut.middle.key ≡ key
  pub low : HoldsRun (g.used old) (sight g new pages) first (low_half cut)
  pub high : HoldsRun (g.used old) (sight g new pages) second (high_half cut)
  pub some : (1 ≤ length cut.lower) × (1 ≤ length cut.higher)
  pub shifts : Shifts g old new pages (first ∷ second ∷ []) (first ∷ second ∷ []) 0

-- two neighbours, of which one has one child and no cell
pub record IsThinPair {P : Type 0} (g : Ghosts P) (s : P) (pages : Paging) (height low high : ℕ) (key : ℤ) (first second : ℕ) : Type 0 where
  pub pair : ArePair g s pages height low high key first second
  pub thin : ((children_in g s pages first).cells ≡ []) ⊎ ((children_in g s pages second).cells ≡ [])

-- whatever the pages are below the space, as long as they agree with what was given and such a pair stands there
abbrev pub WhereThinPair : {P : Type 0} (g : Ghosts P) (old new : P) (key : ℤ) (first second : ℕ) → (Paging → (height low high : ℕ) → Type 0) → Type 0
WhereThinPair g old new key first second What =
    (pages : Paging) (height low high : ℕ) → Agrees pages (g.seen new) → IsThinPair g old pages height low high key first second → What pages height low high

-- each interior page below the two has a cell
abbrev pub AreFilledUnder : {P : Type 0} (g : Ghosts P) (s : P) → Paging → (height first second : ℕ) → Type 0
AreFilledUnder g s pages height first second =
    AreFilledBelow (g.used s) (sight g s pages) height (children_in g s pages first) × AreFilledBelow (g.used s) (sight g s pages) height (children_in g s pages second)

-- the first has all that both had, and a cell, and the second is free
pub record BecomeOne {P : Type 0} (g : Ghosts P) (old new : P) (pages : Paging) (height low high : ℕ) (key : ℤ) (first second : ℕ) : Type 0 where
  pub tree : IsTree (g.used old) (sight g new pages) (suc height) low high first
  pub rows : tree_rows (g.used old) (sight g new pages) (suc height) first
      ≡ rows_in (g.used old) (sight g old pages) (suc height) (two_pages key first second)
  pub some : 1 ≤ length (node_cells (g.used old) (sight g new pages) first)
  pub filled : AreFilledUnder g old pages height first second → HasCells (g.used old) (sight g new pages) (suc height) first
  pub shifts : Shifts g old new pages (pages_in (g.used old) (sight g old pages) (suc height) (two_pages key first second))
      (all_pages (g.used old) (sight g new pages) (suc height) first) 0

-- both have a cell, and all that both had, with another key between them
pub record ShareChildren {P : Type 0} (g : Ghosts P) (old new : P) (pages : Paging) (height low high : ℕ) (key other : ℤ) (first second : ℕ) : Type 0 where
  pub is : IsRun (g.used old) (sight g new pages) (suc height) low high (two_pages other first second)
  pub last : IsOpen low high (two_pages other first second)
  pub rows : rows_in (g.used old) (sight g new pages) (suc height) (two_pages other first second)
      ≡ rows_in (g.used old) (sight g old pages) (suc height) (two_pages key first second)
  pub some_first : 1 ≤ length (node_cells (g.used old) (sight g new pages) first)
  pub some_second : 1 ≤ length (node_cells (g.used old) (sight g new pages) second)
  pub filled : AreFilledUnder g old pages height first second
      → AreFilledBelow (g.used old) (sight g new pages) (suc height) (two_pages other first second)
  pub shifts : Shifts g old new pages (pages_in (g.used old) (sight g old pages) (suc height) (two_pages key first second))
      (pages_in (g.used old) (sight g new pages) (suc height) (two_pages other first second)) 0
