-- The laws that the way down a tree and back stands on, at a bound `P: Pages`.
use Rattle.spe_space.specs.declared.pages.Pages.{Ghosts}
use Rattle.spe_frame.specs.Laws.{HeldApart, ShiftsAlike, ShiftsBeside, ShiftsBoth, ShiftsNone, SparesAlike, SparesBeside, SparesBoth, SparesMore}
use Rattle.spe_cut.specs.Changed.{RowIsChanged}
use Rattle.spe_cut.specs.Child.{AboveCells, ChildBecomesRun, ChildOfRun, RowOfChild}
use Rattle.spe_cut.specs.Depth.{RootStaysLow}
use Rattle.spe_cut.specs.Rows.{RowIsPut, RunAscends}
use Rattle.spe_cut.specs.Run.{HolderOfRun, KeptRunStays, RunOfHolder}
use Rattle.spe_cut.specs.Split.{HalvesArePair}

pub record HaveLaws {P : Type 0} (g : Ghosts P) : Type 0 where
  pub idle : ShiftsNone g
  pub both : ShiftsBoth g
  pub beside : ShiftsBeside g
  pub alike : ShiftsAlike g
  pub fails : SparesBoth g
  pub fails_beside : SparesBeside g
  pub fails_alike : SparesAlike g
  pub fails_more : SparesMore g
  pub apart : HeldApart g
  pub holder : HolderOfRun
  pub held : RunOfHolder
  pub stays : KeptRunStays
  pub ascends : RunAscends
  pub child : ChildOfRun
  pub row : RowOfChild
  pub above : AboveCells
  pub grows : ChildBecomesRun
  pub halves : HalvesArePair
  pub put : RowIsPut
  pub changed : RowIsChanged
  pub low : RootStaysLow
