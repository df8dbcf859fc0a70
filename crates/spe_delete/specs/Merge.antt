-- Two neighbours that become one page, at a bound `P: Pages`.
use Rattle.std.specs.Prelude.{◌≡◌, ℕ, [], ◌∷◌, Ok}
use Rattle.spe_model.specs.declared.page.PageCells.{PageCells}
use Rattle.spe_model.specs.Paging.{Paging}
use Rattle.spe_model.specs.Tree.{node_at}
use Rattle.spe_space.specs.declared.pages.Pages.{Ghosts}
use Rattle.spe_space.specs.Calls.{sight}
use Rattle.spe_frame.specs.Held.{Shifts}

-- the first page has these cells, and the second is free
pub record Merges {P : Type 0} (g : Ghosts P) (old new : P) (pages : Paging) (first second : ℕ) (cells : PageCells) : Type 0 where
  pub node : node_at (g.used old) (sight g new pages) first ≡ Ok cells
  pub shifts : Shifts g old new pages (first ∷ second ∷ []) (first ∷ []) 0

-- both pages are held as they were
abbrev pub KeepsBoth : {P : Type 0} (g : Ghosts P) (old new : P) → Paging → (first second : ℕ) → Type 0
KeepsBoth g old new pages first second = Shifts g old new pages (first ∷ second ∷ []) (first ∷ second ∷ []) 0
