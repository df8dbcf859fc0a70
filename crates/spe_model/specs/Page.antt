-- B-tree pages ("B-tree Pages" in SQLite's Database File Format): what a page holds, and the faults that it may have.
-- `page` is its usable bytes, and its header begins at `at`.
use Rattle.std.specs.Prelude.{ℕ, ◌+◌, ◌-◌, ◌*◌, ℤ, Bool, true, not, ◌&&◌, List, [], ◌∷◌, length, drop, max, min, Option, Some, None, Result, Ok, Err, nat_lt, nat_le, int_lt, slice_index, slice_range, if◌then◌else◌}
use Rattle.std.specs.List.{list_all, list_any}
use Rattle.spe_model.specs.declared.page.Kind.{Kind}
use Rattle.spe_model.specs.declared.page.Cell.{Cell}
use Rattle.spe_model.specs.declared.page.PageCells.{PageCells}
use Rattle.spe_model.specs.declared.page.PageFault.{PageFault}
use Rattle.spe_model.specs.declared.page.PageFault.TheVariants.{BadType, OffsetOut, CellOut, Overlap, OutOfOrder}
use Rattle.spe_model.specs.Kind.{kind_of, is_leaf, is_table}
use Rattle.spe_model.specs.Big.{u16_at, u32_at}
use Rattle.spe_model.specs.Cell.{◌>>=◌, cell_at}

-- two runs of bytes, each from its start up to its end, have one in common
abbrev pub share : ℕ × ℕ → ℕ × ℕ → Bool
share a b = nat_lt (max a.0 b.0) (min a.1 b.1)

abbrev pub apart : List (ℕ × ℕ) → Bool
apart [] = true
apart (s ∷ ss) = not (list_any (share s) ss) && apart ss

abbrev pub above : ℤ → List Cell → Bool
above key [] = true
above key (c ∷ cs) = int_lt key c.key && above c.key cs

-- the keys ascend strictly
abbrev pub ascends : List Cell → Bool
ascends [] = true
ascends (c ∷ cs) = above c.key cs

abbrev pub array_start : Kind → ℕ → ℕ
array_start kind at = at + (if is_leaf kind then 8 else 12)

abbrev pub cell_count : List ℕ → ℕ → ℕ
cell_count page at = u16_at page (at + 3)

abbrev pub array_end : Kind → List ℕ → ℕ → ℕ
array_end kind page at = array_start kind at + 2 * cell_count page at

-- the big-endian numbers of two bytes each
abbrev pub numbers : List ℕ → List ℕ
numbers [] = []
numbers (a ∷ []) = []
numbers (a ∷ b ∷ rest) = (a * 256 + b) ∷ numbers rest

-- the offsets of the cells, in the order of their keys
abbrev pub offsets_at : Kind → List ℕ → ℕ → List ℕ
offsets_at kind page at = numbers (slice_range page (array_start kind at) (array_end kind page at))

abbrev pub is_within : ℕ → ℕ → ℕ → Bool
is_within low high n = nat_le low n && nat_le n high

-- the cell at an offset, and where it ends
unfoldable pub placed_at : Kind → ℕ → List ℕ → ℕ → Option (Cell × ℕ)
placed_at kind usable page offset = do
  found ← cell_at kind usable (drop offset page)
  Some (found.0, length page - length found.1)

-- the cells at some offsets, and from where to where each lies
abbrev pub placed_all : Kind → ℕ → List ℕ → List ℕ → Option (List Cell × List (ℕ × ℕ))
placed_all kind usable page [] = Some ([], [])
placed_all kind usable page (offset ∷ offsets) = do
  first ← placed_at kind usable page offset
  others ← placed_all kind usable page offsets
  Some (first.0 ∷ others.0, (offset, first.1) ∷ others.1)

abbrev pub right_at : Kind → List ℕ → ℕ → ℕ
right_at kind page at = if is_leaf kind then 0 else u32_at page (at + 8)

abbrev pub page_of_cells : Kind → List ℕ → ℕ → Option (List Cell × List (ℕ × ℕ)) → Result PageCells PageFault
page_of_cells kind page at None = Err CellOut
page_of_cells kind page at (Some found) =
    if not (apart found.1) then Err Overlap
    else (if is_table kind && not (ascends found.0) then Err OutOfOrder
    else Ok (record { kind = kind; cells = found.0; right = right_at kind page at }))

abbrev pub page_of_kind : Option Kind → List ℕ → ℕ → Result PageCells PageFault
page_of_kind None page at = Err BadType
page_of_kind (Some kind) page at =
    if nat_lt (length page) (array_end kind page at) then Err OffsetOut
    else (if not (list_all (is_within (array_end kind page at) (length page)) (offsets_at kind page at)) then Err OffsetOut
    else page_of_cells kind page at (placed_all kind (length page) page (offsets_at kind page at)))

-- What a page holds, or its lowest fault. Any legal layout is admitted: the cells may lie in any order and leave gaps.
unfoldable pub page_at : List ℕ → ℕ → Result PageCells PageFault
page_at page at = page_of_kind (kind_of (slice_index page at)) page at
