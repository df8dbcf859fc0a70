-- The one form in which a b-tree page is written ("B-tree Pages" in SQLite's Database File Format). Its
-- cells stand behind one another at the end of the usable bytes, the first of them last, with no gap among them. What lies
-- between the array of offsets and the cells is zeros, so nothing is left for freeblocks or fragments. That this is the only form written is this
-- project's own rule.
use Rattle.std.specs.Prelude.{◌≡◌, ℕ, ◌+◌, ◌-◌, ◌*◌, ◌<◌, ◌≤◌, ◌^◌, pos, Bool, true, false, List, [], ◌∷◌, ◌++◌, length, take, drop, replicate, FitsSigned, ◌==◌, nat_le, if◌then◌else◌}
use Rattle.std.specs.Int.{w64, cast_unsigned}
use Rattle.std.specs.List.{flat_map}
use Rattle.byteorder.specs.Endian.{big_bytes}
use Rattle.spe_model.specs.declared.page.Kind.{Kind}
use Rattle.spe_model.specs.declared.page.Kind.TheVariants.{TableLeaf, TableInterior, IndexLeaf, IndexInterior}
use Rattle.spe_model.specs.declared.page.Cell.{Cell}
use Rattle.spe_model.specs.declared.page.PageCells.{PageCells}
use Rattle.spe_model.specs.Cell.{size_of}
use Rattle.spe_model.specs.Kind.{is_leaf, is_table, has_payload}
use Rattle.spe_model.specs.Page.{array_start, ascends}
use Rattle.spe_format.specs.Spelling.{varint_bytes}

-- these bytes in the place of as many from `at` on
abbrev pub splice : ℕ → List ℕ → List ℕ → List ℕ
splice at bytes xs = take at xs ++ (bytes ++ drop (at + length bytes) xs)

abbrev pub type_byte : Kind → ℕ
type_byte TableLeaf = 13
type_byte TableInterior = 5
type_byte IndexLeaf = 10
type_byte IndexInterior = 2

-- the parts of a cell, none where its kind has not that part
unfoldable pub left_bytes : Kind → Cell → List ℕ
left_bytes kind c = if is_leaf kind then [] else big_bytes 4 c.left

unfoldable pub payload_bytes : Kind → Cell → List ℕ
payload_bytes kind c = if has_payload kind then varint_bytes c.payload else []

unfoldable pub key_bytes : Kind → Cell → List ℕ
key_bytes kind c = if is_table kind then varint_bytes (cast_unsigned w64 c.key) else []

unfoldable pub chain_bytes : Cell → List ℕ
chain_bytes c = if length c.local == c.payload then [] else big_bytes 4 c.chain

-- the bytes of a cell
abbrev pub cell_bytes : Kind → Cell → List ℕ
cell_bytes kind c = left_bytes kind c ++ (payload_bytes kind c ++ (key_bytes kind c ++ (c.local ++ chain_bytes c)))

-- how many bytes cells take
abbrev pub cells_length : Kind → List Cell → ℕ
cells_length kind [] = 0
cells_length kind (c ∷ cs) = length (cell_bytes kind c) + cells_length kind cs

-- where each cell begins: the first ends at `end`, and each next one where the one before begins
abbrev pub starts : Kind → (end : ℕ) → List Cell → List ℕ
starts kind end [] = []
starts kind end (c ∷ cs) = (end - length (cell_bytes kind c)) ∷ starts kind (end - length (cell_bytes kind c)) cs

-- the cells as they lie, the last in front
abbrev pub content : Kind → List Cell → List ℕ
content kind [] = []
content kind (c ∷ cs) = content kind cs ++ cell_bytes kind c

unfoldable pub right_bytes : Kind → ℕ → List ℕ
right_bytes kind right = if is_leaf kind then [] else big_bytes 4 right

-- The header: the kind, no freeblock, the number of cells, where the first byte of the cells stands, no fragments, and
-- the right-most child. Where the cells would stand at 65536, there is 0.
abbrev pub header_bytes : PageCells → (usable : ℕ) → List ℕ
header_bytes page usable =
    (type_byte page.kind ∷ big_bytes 2 0) ++ (big_bytes 2 (length page.cells) ++ (big_bytes 2 (usable - cells_length page.kind page.cells) ++ (0 ∷ right_bytes page.kind page.right)))

-- how many bytes of a page are used up to the end of the usable ones, its header beginning at `at`
abbrev pub used : PageCells → (at : ℕ) → ℕ
used page at = array_start page.kind at + (2 * length page.cells + cells_length page.kind page.cells)

abbrev pub fits : PageCells → (at usable : ℕ) → Bool
fits page at usable = nat_le (used page at) usable

-- the offsets, the unused bytes and the cells
abbrev pub body_bytes : Kind → (end unused : ℕ) → List Cell → List ℕ
body_bytes kind end unused cells = flat_map (λ offset. big_bytes 2 offset) (starts kind end cells) ++ (replicate unused 0 ++ content kind cells)

-- the bytes from the header to the end of the usable ones
abbrev pub canonical : PageCells → (at usable : ℕ) → List ℕ
canonical page at usable = header_bytes page usable ++ body_bytes page.kind usable (usable - used page at) page.cells

-- what becomes of a page that these cells are to be written to
abbrev pub page_written : PageCells → (at usable : ℕ) → List ℕ → List ℕ
page_written page at usable old = if fits page at usable then splice at (canonical page at usable) old else old

-- a cell as a page of this kind has it: parts that the kind has not are 0 or empty, and as much of the payload is local
-- as the kind and the usable size say
pub record IsWritableCell (kind : Kind) (usable : ℕ) (c : Cell) : Type 0 where
  pub left : is_leaf kind ≡ true → c.left ≡ 0
  pub key : is_table kind ≡ false → c.key ≡ pos 0
  pub payload : has_payload kind ≡ false → c.payload ≡ 0
  pub most : c.payload ≤ 2147483647
  pub local : length c.local ≡ size_of kind c.payload usable
  pub chain : length c.local ≡ c.payload → c.chain ≡ 0

abbrev pub AreWritable : Kind → (usable : ℕ) → List Cell → Type 0
AreWritable kind usable [] = Unit {0}
AreWritable kind usable (c ∷ cs) = IsWritableCell kind usable c × AreWritable kind usable cs

-- cells that a page of so many usable bytes can have
pub record IsWritable (page : PageCells) (usable : ℕ) : Type 0 where
  pub cells : AreWritable page.kind usable page.cells
  pub right : is_leaf page.kind ≡ true → page.right ≡ 0
  pub ascends : is_table page.kind ≡ true → ascends page.cells ≡ true

-- the numbers of a cell are those of its type
pub record IsInRange (c : Cell) : Type 0 where
  pub left : c.left < 2 ^ 32
  pub key : FitsSigned w64 c.key
  pub payload : c.payload < 2 ^ 64
  pub chain : c.chain < 2 ^ 32

abbrev pub AreInRange : List Cell → Type 0
AreInRange [] = Unit {0}
AreInRange (c ∷ cs) = IsInRange c × AreInRange cs
