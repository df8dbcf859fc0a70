-- A legal page that is looked at cell by cell.
use Rattle.std.specs.Prelude.{◌≡◌, ℕ, not, ◌&&◌, List, [], ◌∷◌, Option, Some, None, Result, Ok, Err, if◌then◌else◌}
use Rattle.spe_model.specs.declared.page.Kind.{Kind}
use Rattle.spe_model.specs.declared.page.Cell.{Cell}
use Rattle.spe_model.specs.declared.page.PageCells.{PageCells}
use Rattle.spe_model.specs.declared.page.PageFault.{PageFault}
use Rattle.spe_model.specs.declared.page.PageFault.TheVariants.{CellOut, Overlap, OutOfOrder}
use Rattle.spe_model.specs.Kind.{is_table}
use Rattle.spe_model.specs.Page.{apart, ascends}
use Rattle.spe_format.specs.declared.cell.Parts.{Parts}
use Rattle.spe_format.specs.View.{Shown, cell_seen, shown_of}

-- whether the cells of a page lie well and are in order, by the cells at its offsets
abbrev pub sorted_of : Kind → Option (List Cell × List (ℕ × ℕ)) → Result (Unit {0}) PageFault
sorted_of kind None = Err CellOut
sorted_of kind (Some found) =
    if not (apart found.1) then Err Overlap
    else (if is_table kind && not (ascends found.0) then Err OutOfOrder else Ok tt)

-- whether a page is legal, by what it holds
abbrev pub legality_of : Result PageCells PageFault → Result (Unit {0}) PageFault
legality_of (Ok cells) = Ok tt
legality_of (Err fault) = Err fault

-- those that are there
abbrev pub present : List (Option Cell) → List Cell
present [] = []
present (None ∷ rest) = present rest
present (Some c ∷ rest) = c ∷ present rest

-- the cells of what a page shows
abbrev pub cells_of : Shown → PageCells
cells_of shown = record { kind = shown.kind; cells = present shown.cells; right = shown.right }

-- what a page shows is all there
abbrev pub IsLegal : Shown → Type 0
IsLegal shown = shown ≡ shown_of (cells_of shown)

-- a cell is the front of those that are left, and after it others are; or none is left
abbrev pub Leads : Option Parts → List Cell → List Cell → Type 0
Leads None old new = old ≡ []
Leads (Some parts) old new = old ≡ cell_seen parts ∷ new
