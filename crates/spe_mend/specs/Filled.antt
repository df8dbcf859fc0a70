-- Two children of a page that became others: what has cells.
use Rattle.std.specs.Prelude.{ℕ, All}
use Rattle.spe_model.specs.declared.page.Cell.{Cell}
use Rattle.spe_model.specs.Paging.{Paging}
use Rattle.spe_model.specs.Served.{HasCells}
use Rattle.spe_model.specs.Standing.{AreBelow}
use Rattle.spe_cut.specs.Run.{AreFilledBelow, AreKept, Place, Run, inner, last, pages_beside, with_run}

-- each interior page of the trees beside a place has a cell
abbrev pub AreFilledBeside : (usable : ℕ) (pages : Paging) (height : ℕ) → Place → Type 0
AreFilledBeside usable pages height (inner before c after right) =
    All (λ (d : Cell). HasCells usable pages height d.left) before × AreBelow (HasCells usable pages height) after right
AreFilledBeside usable pages height (last before) = All (λ (d : Cell). HasCells usable pages height d.left) before

-- so of all trees, where a run stands there of which this holds, and the pages of all others keep their bytes
abbrev pub FilledBeside : Type 0
FilledBeside = (usable : ℕ) (old new : Paging) (height : ℕ) (place : Place) (run : Run) → AreKept old new (pages_beside usable old height place)
    → AreFilledBeside usable old height place → AreFilledBelow usable new height run → AreFilledBelow usable new height (with_run place run)
