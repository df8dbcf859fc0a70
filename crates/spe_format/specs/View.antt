-- A page that is looked at cell by cell, in the sense of the definitions of pages and cells.
use Rattle.std.specs.Prelude.{ℕ, ◌+◌, ◌*◌, ◌≤◌, List, length, map, Option, Some, None, Result, Ok, Err, nat_lt, slice_index, slice_range, if◌then◌else◌}
use Rattle.std.specs.Option.{option_map}
use Rattle.spe_model.specs.declared.page.Kind.{Kind}
use Rattle.spe_model.specs.declared.page.Cell.{Cell}
use Rattle.spe_model.specs.declared.page.PageCells.{PageCells}
use Rattle.spe_model.specs.declared.page.PageFault.{PageFault}
use Rattle.spe_model.specs.declared.page.PageFault.TheVariants.{BadType, OffsetOut}
use Rattle.spe_format.specs.declared.cell.Parts.{Parts}
use Rattle.spe_model.specs.Kind.{kind_of}
use Rattle.spe_model.specs.Page.{array_start, array_end, cell_count, is_within, numbers, placed_at, right_at}

-- What a page shows: its kind, for each offset of its array in their order the cell there, and the right-most child.
-- Where an offset lies before the array's end, or its cell runs out of the usable bytes, there is None.
pub record Shown : Type 0 where
  pub kind : Kind
  pub cells : List (Option Cell)
  pub right : ℕ

-- a cell that borrows its page, as a value
abbrev pub cell_seen : Parts → Cell
cell_seen parts = record { left = parts.left; key = parts.key; payload = parts.payload; local = parts.local.now; chain = parts.chain }

-- the cell at an offset, where that is not before `low`
abbrev pub cell_from : Kind → List ℕ → ℕ → ℕ → Option Cell
cell_from kind page low offset =
    if is_within low (length page) offset then option_map (λ x. x.0) (placed_at kind (length page) page offset) else None

-- what a page shows whose array of `count` offsets begins at `start`
abbrev pub shown_by : Kind → List ℕ → (start count right : ℕ) → Shown
shown_by kind page start count right = record {
  kind = kind;
  cells = map (cell_from kind page (start + 2 * count)) (numbers (slice_range page start (start + 2 * count)));
  right = right;
}

-- the sizes within which a page is looked at
pub record IsView (page : List ℕ) (start count : ℕ) : Type 0 where
  pub low : 480 ≤ length page
  pub high : length page ≤ 65536
  pub array : start + 2 * count ≤ length page

abbrev pub shown_of_kind : Option Kind → List ℕ → ℕ → Result Shown PageFault
shown_of_kind None page at = Err BadType
shown_of_kind (Some kind) page at =
    if nat_lt (length page) (array_end kind page at) then Err OffsetOut
    else Ok (shown_by kind page (array_start kind at) (cell_count page at) (right_at kind page at))

-- what a page shows, or why it shows nothing: `page` is its usable bytes, and its header begins at `at`
unfoldable pub shown_at : List ℕ → ℕ → Result Shown PageFault
shown_at page at = shown_of_kind (kind_of (slice_index page at)) page at

-- what a legal page shows
abbrev pub shown_of : PageCells → Shown
shown_of page = record { kind = page.kind; cells = map Some page.cells; right = page.right }
