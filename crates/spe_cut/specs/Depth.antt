-- How many pages a tree takes at least, and so how deep it can be.
use Rattle.std.specs.Prelude.{ℕ, ◌+◌, ◌*◌, ◌^◌, ◌<◌, ◌≤◌, length}
use Rattle.spe_model.specs.Paging.{Paging}
use Rattle.spe_model.specs.Served.{HasCells}
use Rattle.spe_model.specs.Standing.{IsOneOf, all_pages}
use Rattle.spe_frame.specs.Times.{AreSingle, HoldsOf, Lacks}
use Rattle.spe_cut.specs.Run.{AreFilledBelow, Run, pages_in}

-- Where each interior page has a cell, and so two children at least, each level has twice the pages of the one above.
abbrev pub FilledTreeIsWide : Type 0
FilledTreeIsWide = (usable : ℕ) (pages : Paging) (height page : ℕ) → HasCells usable pages height page
    → Lacks (all_pages usable pages height page) 1 → 2 ^ (height + 1) ≤ length (all_pages usable pages height page) + 1

-- Page 1 may be without a cell. It is in a tree once at most, and one level is then no wider than the one above.
abbrev pub SingleTreeIsWide : Type 0
SingleTreeIsWide = (usable : ℕ) (pages : Paging) (height page : ℕ) → HasCells usable pages height page
    → AreSingle (all_pages usable pages height page) → 2 ^ height ≤ length (all_pages usable pages height page)

-- The children of an overfull root: their trees have cells where they must and no page twice, and all pages are in a
-- file of `count` pages, none of which is smaller than 512 bytes.
pub record IsOverfull (usable count : ℕ) (pages : Paging) (height : ℕ) (run : Run) : Type 0 where
  pub many : 8 ≤ length run.cells
  pub filled : AreFilledBelow usable pages height run
  pub single : AreSingle (pages_in usable pages height run)
  pub within : HoldsOf (IsOneOf count) (pages_in usable pages height run)
  pub few : count * 512 ≤ 2 ^ 30

-- A root takes a level more only where its cells overflow it, and then it has eight of them at least, as one takes 15
-- bytes at most with its offset, and page 1 has room for 368. So it has nine children or more. A child with all leaves 18 levels below
-- it has 2^18 pages at least, and nine times as many are more than the 2^21 pages of the largest file. So the children
-- are at most 17 levels high, the halves of the root 18, and the new root 19: less than 20.
abbrev pub RootStaysLow : Type 0
RootStaysLow = (usable count : ℕ) (pages : Paging) (height : ℕ) (run : Run) → IsOverfull usable count pages height run → height + 2 < 20
