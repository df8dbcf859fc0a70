-- A run that takes a child's place on a page, at a bound `P: Pages`.
use Rattle.std.specs.Prelude.{◌≡◌, ℕ, ℤ}
use Rattle.spe_model.specs.Paging.{Paging}
use Rattle.spe_model.specs.Tree.{rank}
use Rattle.spe_cut.specs.Run.{HoldsRun, Place, Run, with_child, with_run}
use Rattle.spe_insert.specs.Below.{first_child}
use Rattle.spe_insert.specs.Place.{place_at, place_for}

-- the place of the child in which a rowid belongs
abbrev pub place_in : Run → (rowid : ℤ) → Place
place_in children rowid = place_at (place_for (rank rowid) children.cells) children

-- the children with a run in that place
abbrev pub grown_in : (children : Run) (rowid : ℤ) (run : Run) → Run
grown_in children rowid run = with_run (place_in children rowid) run

-- the page has these children, and the run begins with the one in which the rowid belongs
pub record IsBegun (usable : ℕ) (pages : Paging) (page : ℕ) (children : Run) (rowid : ℤ) (run : Run) : Type 0 where
  pub holds : HoldsRun usable pages page children
  pub first : with_child (place_in children rowid) (first_child run) ≡ children
