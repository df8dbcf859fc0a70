-- A root that gets a level more, at a bound `P: Pages`.
use Rattle.std.specs.Prelude.{◌≡◌, ℕ, [], ◌∷◌}
use Rattle.spe_model.specs.Paging.{Paging}
use Rattle.spe_space.specs.declared.pages.Pages.{Ghosts}
use Rattle.spe_space.specs.Calls.{sight}
use Rattle.spe_frame.specs.Held.{Shifts}
use Rattle.spe_cut.specs.Run.{HoldsRun, Run, with_child}
use Rattle.spe_insert.specs.Place.{place_at}

-- the run with another first child
abbrev pub led_by : Run → ℕ → Run
led_by run child = with_child (place_at 0 run) child

-- a new page has the root's bytes, and the root holds the run with that page as the first child
pub record Raises {P : Type 0} (g : Ghosts P) (old new : P) (pages : Paging) (root : ℕ) (run : Run) : Type 0 where
  pub next : ℕ
  pub same : sight g new pages next ≡ sight g old pages root
  pub holds : HoldsRun (g.used old) (sight g new pages) root (led_by run next)
  pub shifts : Shifts g old new pages (root ∷ []) (root ∷ next ∷ []) 1
