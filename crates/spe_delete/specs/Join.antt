-- Two interior neighbours that become one page, at a bound `P: Pages`.
use Rattle.std.specs.Prelude.{◌≡◌, ℕ, suc, ℤ, ◌+◌, [], ◌∷◌}
use Rattle.spe_model.specs.Paging.{Agrees, Paging}
use Rattle.spe_model.specs.Served.{HasCells}
use Rattle.spe_model.specs.Standing.{all_pages}
use Rattle.spe_model.specs.Tree.{IsTree, rank, tree_rows}
use Rattle.spe_space.specs.declared.pages.Pages.{Ghosts}
use Rattle.spe_space.specs.Calls.{sight}
use Rattle.spe_frame.specs.Held.{AreHeld, IsReady, Shifts}
use Rattle.spe_frame.specs.Times.{Lacks}
use Rattle.spe_cut.specs.Run.{AreFilledBelow, HoldsRun, IsOpen, IsRun, Run, pages_in, rows_in, separator}

-- two pages with a key between them
abbrev pub two_pages : (key : ℤ) (first second : ℕ) → Run
two_pages key first second = record { cells = separator key first ∷ []; right = second }

-- Two interior pages are a run with this key between them, and their pages are held, page 1 not among them. A rowid of at
-- most the key may stand in the last child of the first.
pub record ArePair {P : Type 0} (g : Ghosts P) (s : P) (pages : Paging) (height low high : ℕ) (key : ℤ) (first second : ℕ) : Type 0 where
  pub ready : IsReady g s pages
  pub run : IsRun (g.used s) (sight g s pages) (suc height) low high (two_pages key first second)
  pub held : AreHeld g s pages (pages_in (g.used s) (sight g s pages) (suc height) (two_pages key first second))
  pub later : Lacks (pages_in (g.used s) (sight g s pages) (suc height) (two_pages key first second)) 1
  pub last : (run : Run) → HoldsRun (g.used s) (sight g s pages) first run → IsOpen low (rank key + 1) run

-- whatever the pages are below the space, as long as they agree with what was given and such a pair stands there
abbrev pub WherePair : {P : Type 0} (g : Ghosts P) (old new : P) (key : ℤ) (first second : ℕ) → (Paging → (height low high : ℕ) → Type 0) → Type 0
WherePair g old new key first second What =
    (pages : Paging) (height low high : ℕ) → Agrees pages (g.seen new) → ArePair g old pages height low high key first second → What pages height low high

-- the first has all that both had, and the second is free
pub record Joins {P : Type 0} (g : Ghosts P) (old new : P) (pages : Paging) (height low high : ℕ) (key : ℤ) (first second : ℕ) : Type 0 where
  pub tree : IsTree (g.used old) (sight g new pages) (suc height) low high first
  pub rows : tree_rows (g.used old) (sight g new pages) (suc height) first
      ≡ rows_in (g.used old) (sight g old pages) (suc height) (two_pages key first second)
  pub filled : AreFilledBelow (g.used old) (sight g old pages) (suc height) (two_pages key first second)
      → HasCells (g.used old) (sight g new pages) (suc height) first
  pub shifts : Shifts g old new pages (pages_in (g.used old) (sight g old pages) (suc height) (two_pages key first second))
      (all_pages (g.used old) (sight g new pages) (suc height) first) 0

-- both stay as they were
abbrev pub StaysPair : {P : Type 0} (g : Ghosts P) (old new : P) → Paging → (height : ℕ) (key : ℤ) (first second : ℕ) → Type 0
StaysPair g old new pages height key first second =
    Shifts g old new pages (pages_in (g.used old) (sight g old pages) (suc height) (two_pages key first second))
    (pages_in (g.used old) (sight g old pages) (suc height) (two_pages key first second)) 0
