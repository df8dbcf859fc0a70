-- What a reader of pages may answer, given what reading gives. Memory may run out at any time.
use Rattle.std.specs.Prelude.{◌≡◌, Option, Some, None, Result, Ok, Err}
use Rattle.spe_model.specs.declared.page.PageFault.{PageFault}
use Rattle.spe_model.specs.declared.page.PageFault.TheVariants.{CellOut, Memory}

abbrev pub FailsPage : {X : Type 0} → PageFault → Result X PageFault → Type 0
FailsPage Memory reading = Unit {0}
FailsPage fault reading = reading ≡ Err fault

-- the answer is what reading gives, or Memory
abbrev pub GivesPage : {X : Type 0} → Result X PageFault → Result X PageFault → Type 0
GivesPage (Ok x) reading = reading ≡ Ok x
GivesPage (Err fault) reading = FailsPage fault reading

abbrev pub NoCells : {Y : Type 0} → PageFault → Option Y → Type 0
NoCells CellOut found = found ≡ None
NoCells Memory found = Unit {0}
NoCells _ found = ⊥

-- the answer, seen so, is what is found, or CellOut where nothing is, or Memory
abbrev pub FindsCells : {X Y : Type 0} → (X → Y) → Result X PageFault → Option Y → Type 0
FindsCells view (Ok x) found = found ≡ Some (view x)
FindsCells view (Err fault) found = NoCells fault found
