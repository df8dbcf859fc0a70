-- A row of the tree below a page that gets another payload, at a bound `P: Pages`.
use Rattle.std.specs.Prelude.{◌≡◌, ℕ, ℤ, ◌+◌, List, ◌∷◌, ◌++◌, is_some, take, drop, true}
use Rattle.spe_model.specs.declared.page.Cell.{Cell}
use Rattle.spe_model.specs.Paging.{Paging}
use Rattle.spe_model.specs.Standing.{all_pages}
use Rattle.spe_model.specs.Tree.{row_at, tree_rows}
use Rattle.spe_space.specs.declared.pages.Pages.{Ghosts}
use Rattle.spe_space.specs.Calls.{sight}
use Rattle.spe_frame.specs.Held.{Shifts}
use Rattle.spe_insert.specs.Below.{LacksRow}

-- the tree has a row with the rowid
abbrev pub HasRow : {P : Type 0} (g : Ghosts P) (s : P) → Paging → (height page : ℕ) → ℤ → Type 0
HasRow g s pages height page rowid = is_some (row_at rowid (tree_rows (g.used s) (sight g s pages) height page)) ≡ true

-- the tree has no row with the rowid, and nothing was changed
pub record IsUnmatched {P : Type 0} (g : Ghosts P) (old new : P) (pages : Paging) (height page : ℕ) (rowid : ℤ) : Type 0 where
  pub absent : LacksRow g old pages height page rowid
  pub shifts : Shifts g old new pages (all_pages (g.used old) (sight g old pages) height page)
      (all_pages (g.used old) (sight g old pages) height page) 0

-- the cell stands at a place among some
abbrev pub StandsAt : (cells : List Cell) (place : ℕ) (cell : Cell) → Type 0
StandsAt cells place cell = cells ≡ take place cells ++ (cell ∷ drop (place + 1) cells)

-- some cells with another one at a place
abbrev pub with_other : (place : ℕ) (cells : List Cell) (other : Cell) → List Cell
with_other place cells other = take place cells ++ (other ∷ drop (place + 1) cells)
