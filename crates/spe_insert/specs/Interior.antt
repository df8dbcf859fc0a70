-- Interior pages that are written, at a bound `P: Pages`.
use Rattle.std.specs.Prelude.{◌≡◌, ◌⊎◌, ℕ, ◌≤◌, [], ◌∷◌, length, Ok}
use Rattle.spe_model.specs.declared.page.PageCells.{PageCells}
use Rattle.spe_model.specs.Paging.{Paging}
use Rattle.spe_model.specs.Tree.{node_at}
use Rattle.spe_space.specs.declared.pages.Pages.{Ghosts}
use Rattle.spe_space.specs.Calls.{sight}
use Rattle.spe_frame.specs.Held.{Shifts}
use Rattle.spe_cut.specs.Run.{HoldsRun, Run, alone}
use Rattle.spe_cut.specs.Split.{Cut, high_half, low_half, pair, whole}

-- the page holds the run
pub record LaysWhole {P : Type 0} (g : Ghosts P) (old new : P) (pages : Paging) (page : ℕ) (children run : Run) : Type 0 where
  pub run_is : run ≡ alone page
  pub holds : HoldsRun (g.used old) (sight g new pages) page children
  pub shifts : Shifts g old new pages (page ∷ []) (page ∷ []) 1

-- the page and a new one hold its halves; the children overflowed the page, so they have eight cells at least
pub record LaysHalves {P : Type 0} (g : Ghosts P) (old new : P) (pages : Paging) (page : ℕ) (children run : Run) : Type 0 where
  pub next : ℕ
  pub cut : Cut
  pub whole_is : whole cut ≡ children
  pub run_is : run ≡ pair cut page next
  pub low : HoldsRun (g.used old) (sight g new pages) page (low_half cut)
  pub high : HoldsRun (g.used old) (sight g new pages) next (high_half cut)
  pub some : (1 ≤ length cut.lower) × (1 ≤ length cut.higher)
  pub many : 8 ≤ length children.cells
  pub shifts : Shifts g old new pages (page ∷ []) (page ∷ next ∷ []) 1

abbrev pub LaysRun : {P : Type 0} (g : Ghosts P) (old new : P) → Paging → (page : ℕ) (children run : Run) → Type 0
LaysRun g old new pages page children run = LaysWhole g old new pages page children run ⊎ LaysHalves g old new pages page children run

-- two pages have these cells, of which the second is new
pub record LaysTwo {P : Type 0} (g : Ghosts P) (old new : P) (pages : Paging) (page next : ℕ) (low high : PageCells) : Type 0 where
  pub first : node_at (g.used old) (sight g new pages) page ≡ Ok low
  pub second : node_at (g.used old) (sight g new pages) next ≡ Ok high
  pub shifts : Shifts g old new pages (page ∷ []) (page ∷ next ∷ []) 1
