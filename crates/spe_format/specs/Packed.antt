-- Leaves of tables whose cells stand in the written form, whatever else the page has.
use Rattle.std.specs.Prelude.{◌≡◌, ◌⊎◌, ℕ, ℤ, ◌+◌, ◌-◌, ◌*◌, ◌<◌, ◌≤◌, List, [], ◌∷◌, ◌++◌, length, take, drop, All, true, Result, Ok, slice_index, slice_range}
use Rattle.std.specs.List.{flat_map}
use Rattle.byteorder.specs.Endian.{big_bytes}
use Rattle.spe_model.specs.declared.page.Cell.{Cell}
use Rattle.spe_model.specs.declared.page.Kind.TheVariants.{TableLeaf}
use Rattle.spe_model.specs.declared.page.PageCells.{PageCells}
use Rattle.spe_model.specs.Page.{ascends, cell_count, numbers, page_at}
use Rattle.spe_model.specs.Tree.{rank}
use Rattle.spe_format.specs.Canonical.{AreInRange, AreWritable, IsInRange, IsWritable, IsWritableCell, cell_bytes, cells_length, content, starts}
use Rattle.spe_format.specs.declared.slot.Slot.{Slot}

-- a leaf of a table with these cells
abbrev pub leaf_page : List Cell → PageCells
leaf_page cells = record { kind = TableLeaf; cells = cells; right = 0 }

-- some bytes begin with a leaf's cell in its written form
pub record IsSpelled (usable : ℕ) (bytes : List ℕ) (c : Cell) (rest : List ℕ) : Type 0 where
  pub bytes_are : bytes ≡ cell_bytes TableLeaf c ++ rest
  pub writable : IsWritableCell TableLeaf usable c
  pub range : IsInRange c

-- a cell in its written form, with a key of this rank, lies from `begin` up to `end`
pub record IsCellAt (page : List ℕ) (begin end key : ℕ) : Type 0 where
  pub cell : Cell
  pub key_is : rank cell.key ≡ key
  pub ends : begin + length (cell_bytes TableLeaf cell) ≡ end
  pub spelled : IsSpelled (length page) (drop begin page) cell (drop end page)

-- the offsets of cells of which the first ends at `end`
abbrev pub offset_bytes : (end : ℕ) → List Cell → List ℕ
offset_bytes end cells = flat_map (λ offset. big_bytes 2 offset) (starts TableLeaf end cells)

-- The page is a leaf with these cells, and its offsets and cells stand as they are written. What else its header says,
-- and the bytes between the offsets and the cells, may be anything.
pub record IsPacked (page : List ℕ) (at usable : ℕ) (cells : List Cell) : Type 0 where
  pub reads : page_at (take usable page) at ≡ Ok (leaf_page cells)
  pub writable : IsWritable (leaf_page cells) usable
  pub ranges : AreInRange cells
  pub fits : at + 8 + (2 * length cells + cells_length TableLeaf cells) ≤ usable
  pub offsets : drop (at + 8) page ≡ offset_bytes usable cells ++ drop (at + 8 + 2 * length cells) page
  pub cells_are : drop (usable - cells_length TableLeaf cells) page ≡ content TableLeaf cells ++ drop usable page

-- a place in such a leaf, before which and behind which these cells stand
pub record IsSlot (page : List ℕ) (at usable : ℕ) (slot : Slot) (before after : List Cell) : Type 0 where
  pub packed : IsPacked page at usable (before ++ after)
  pub count : slot.count ≡ length (before ++ after)
  pub low : slot.low + cells_length TableLeaf (before ++ after) ≡ usable
  pub place : slot.place ≡ length before
  pub end : slot.end + cells_length TableLeaf before ≡ usable

-- the place of a key of this rank, which no cell has
pub record IsSlotFor (page : List ℕ) (at usable key : ℕ) (slot : Slot) : Type 0 where
  pub before : List Cell
  pub after : List Cell
  pub is : IsSlot page at usable slot before after
  pub lower : All (λ (d : Cell). rank d.key < key) before
  pub higher : All (λ (d : Cell). key < rank d.key) after

-- offsets, each for a cell that lies so many bytes lower
abbrev pub moved_offsets : (by : ℕ) → List ℕ → List ℕ
moved_offsets by bytes = flat_map (λ offset. big_bytes 2 (offset - by)) (numbers bytes)

-- the header of a leaf of so many cells, the last of which begins at `low`
abbrev pub leaf_header : (count low : ℕ) → List ℕ
leaf_header count low = (13 ∷ big_bytes 2 0) ++ (big_bytes 2 count ++ (big_bytes 2 low ++ (0 ∷ [])))

-- such numbers within a page
pub record IsWithin (at usable : ℕ) (slot : Slot) : Type 0 where
  pub place : slot.place ≤ slot.count
  pub array : at + 8 + 2 * slot.count ≤ slot.low
  pub low : slot.low ≤ slot.end
  pub end : slot.end ≤ usable

-- The cells of which `slot` tells stand in their written form at the end of the page, with keys that ascend, at most
-- `last`, of which the first are below the key of the rank `key` and the others above.
pub record IsTrail (page : List ℕ) (last key : ℕ) (slot : Slot) (before after : List Cell) : Type 0 where
  pub cells_are : drop slot.low page ≡ content TableLeaf (before ++ after)
  pub count : slot.count ≡ length (before ++ after)
  pub low : slot.low + cells_length TableLeaf (before ++ after) ≡ length page
  pub place : slot.place ≡ length before
  pub end : slot.end + cells_length TableLeaf before ≡ length page
  pub lower : All (λ (d : Cell). rank d.key < key) before
  pub higher : All (λ (d : Cell). key < rank d.key) after
  pub top : All (λ (d : Cell). rank d.key ≤ last) (before ++ after)
  pub rises : ascends (before ++ after) ≡ true
  pub writable : AreWritable TableLeaf (length page) (before ++ after)
  pub ranges : AreInRange (before ++ after)

-- such cells at the offsets of an array, but those that are left
pub record HasTrail (page array left : List ℕ) (last key : ℕ) (slot : Slot) : Type 0 where
  pub before : List Cell
  pub after : List Cell
  pub offsets : array ≡ offset_bytes (length page) (before ++ after) ++ left
  pub trail : IsTrail page last key slot before after

-- such cells at all offsets of an array
pub record EndsTrail (page array : List ℕ) (key : ℕ) (slot : Slot) : Type 0 where
  pub last : ℕ
  pub left : List ℕ
  pub few : length left < 2
  pub has : HasTrail page array left last key slot

-- such cells at the offsets of a page of usable bytes alone
pub record IsSlotIn (page : List ℕ) (at key : ℕ) (slot : Slot) : Type 0 where
  pub last : ℕ
  pub before : List Cell
  pub after : List Cell
  pub kind_is : slice_index page at ≡ 13
  pub stop : cell_count page at ≡ length (before ++ after)
  pub offsets : slice_range page (at + 8) (at + 8 + 2 * length (before ++ after)) ≡ offset_bytes (length page) (before ++ after)
  pub room : at + 8 + 2 * length (before ++ after) ≤ slot.low
  pub trail : IsTrail page last key slot before after

-- one cell more behind those so far: it lies lower, its key is above the last one, and it stands before the place of a
-- key or behind it
pub record IsNext (slot : Slot) (begin last next key : ℕ) (new : Slot) : Type 0 where
  pub rises : 0 < slot.count → last < next
  pub stands : ((next < key) × (slot.place ≡ slot.count) × (new ≡ record { count = slot.count + 1; low = begin; place = slot.count + 1; end = begin }))
      ⊎ ((key < next) × (new ≡ record slot { count = slot.count + 1; low = begin }))
