-- The tree of a table under a root, and its rows ("B-tree Pages" in SQLite's Database File Format). All leaves of a tree
-- stand at one depth, and a tree is at most 20 levels deep.
use Rattle.std.specs.Prelude.{◌≡◌, ℕ, zero, suc, ℤ, pos, negsuc, ◌+◌, ◌-◌, ◌<◌, ◌≤◌, List, [], ◌∷◌, ◌++◌, length, take, map, Option, Some, None, Result, Ok, Err, ◌==◌, nat_le, if◌then◌else◌}
use Rattle.std.specs.Ordering.{int_eq}
use Rattle.spe_model.specs.declared.page.Kind.{Kind}
use Rattle.spe_model.specs.declared.page.Kind.TheVariants.{TableLeaf, TableInterior}
use Rattle.spe_model.specs.declared.page.Cell.{Cell}
use Rattle.spe_model.specs.declared.page.PageCells.{PageCells}
use Rattle.spe_model.specs.declared.page.PageFault.{PageFault}
use Rattle.spe_model.specs.Page.{page_at}
use Rattle.spe_model.specs.Paging.{Paging}
use Rattle.spe_model.specs.Chain.{IsChain, chain_bytes}

-- A rowid as a number from 0 that sorts as it does: it is 2^63 more.
abbrev pub rank : ℤ → ℕ
rank (pos n) = n + 9223372036854775808
rank (negsuc n) = 9223372036854775807 - n

-- page 1 begins with the file's header
abbrev pub header_end : ℕ → ℕ
header_end page = if page == 1 then 100 else 0

-- what a page holds
abbrev pub node_at : (usable : ℕ) (pages : Paging) (page : ℕ) → Result PageCells PageFault
node_at usable pages page = page_at (take usable (pages page)) (header_end page)

abbrev pub cells_in : Result PageCells PageFault → List Cell
cells_in (Ok page) = page.cells
cells_in (Err fault) = []

abbrev pub right_in : Result PageCells PageFault → ℕ
right_in (Ok page) = page.right
right_in (Err fault) = 0

abbrev pub node_cells : (usable : ℕ) (pages : Paging) (page : ℕ) → List Cell
node_cells usable pages page = cells_in (node_at usable pages page)

abbrev pub node_right : (usable : ℕ) (pages : Paging) (page : ℕ) → ℕ
node_right usable pages page = right_in (node_at usable pages page)

-- the page is a legal one of this kind
abbrev pub IsNode : Kind → (usable : ℕ) (pages : Paging) (page : ℕ) → Type 0
IsNode kind usable pages page = node_at usable pages page ≡ Ok (record { kind = kind; cells = node_cells usable pages page; right = node_right usable pages page })

-- how many bytes of a cell's payload stand in its chain
abbrev pub rest_of : Cell → ℕ
rest_of c = c.payload - length c.local

-- the whole payload of a cell
abbrev pub payload_of : (usable : ℕ) (pages : Paging) → Cell → List ℕ
payload_of usable pages c = c.local ++ chain_bytes usable pages (rest_of c) c.chain

-- rows ascend from a bound and stay below another, and each has its chain
abbrev pub AreRows : (usable : ℕ) (pages : Paging) (low high : ℕ) → List Cell → Type 0
AreRows usable pages low high [] = low ≤ high
AreRows usable pages low high (c ∷ cs) =
    (low ≤ rank c.key) × (rank c.key < high) × IsChain usable pages (rest_of c) c.chain × AreRows usable pages (rank c.key + 1) high cs

-- each child is a tree `T` of rowids above the key before it and at most the key after it
abbrev pub AreUnder : (T : (low high page : ℕ) → Type 0) (low high : ℕ) → List Cell → (right : ℕ) → Type 0
AreUnder T low high [] right = T low high right
AreUnder T low high (c ∷ cs) right =
    (low ≤ rank c.key) × (rank c.key < high) × T low (rank c.key + 1) c.left × AreUnder T (rank c.key + 1) high cs right

-- a tree with all leaves `height` levels below the page, its rowids at least `low` and under `high`, by rank
abbrev pub IsTree : (usable : ℕ) (pages : Paging) (height low high page : ℕ) → Type 0
IsTree usable pages zero low high page = IsNode TableLeaf usable pages page × AreRows usable pages low high (node_cells usable pages page)
IsTree usable pages (suc height) low high page =
    IsNode TableInterior usable pages page
    × AreUnder (IsTree usable pages height) low high (node_cells usable pages page) (node_right usable pages page)

-- the tree of a table, with any rowids
abbrev pub IsTableTree : (usable : ℕ) (pages : Paging) (height root : ℕ) → Type 0
IsTableTree usable pages height root = (height < 20) × IsTree usable pages height 0 18446744073709551616 root

-- a row is its rowid and its payload
abbrev pub rows_of : (usable : ℕ) (pages : Paging) → List Cell → List (ℤ × List ℕ)
rows_of usable pages cells = map (λ (c : Cell). (c.key, payload_of usable pages c)) cells

-- what the children have, the right-most child last
abbrev pub fan : {X : Type 0} → (ℕ → List X) → List Cell → (right : ℕ) → List X
fan own [] right = own right
fan own (c ∷ cs) right = own c.left ++ fan own cs right

-- the rows of a tree, in the order of their rowids
abbrev pub tree_rows : (usable : ℕ) (pages : Paging) (height page : ℕ) → List (ℤ × List ℕ)
tree_rows usable pages zero page = rows_of usable pages (node_cells usable pages page)
tree_rows usable pages (suc height) page = fan (tree_rows usable pages height) (node_cells usable pages page) (node_right usable pages page)

-- the pages of a tree, overflow pages apart
abbrev pub tree_pages : (usable : ℕ) (pages : Paging) (height page : ℕ) → List ℕ
tree_pages usable pages zero page = page ∷ []
tree_pages usable pages (suc height) page = page ∷ fan (tree_pages usable pages height) (node_cells usable pages page) (node_right usable pages page)

-- the payload of the row with a rowid
abbrev pub row_at : ℤ → List (ℤ × List ℕ) → Option (List ℕ)
row_at rowid [] = None
row_at rowid (r ∷ rs) = if int_eq r.0 rowid then Some r.1 else row_at rowid rs

-- the first cell with a rowid
abbrev pub cell_for : ℤ → List Cell → Option Cell
cell_for rowid [] = None
cell_for rowid (c ∷ cs) = if int_eq c.key rowid then Some c else cell_for rowid cs

-- the child in which a rowid belongs, by its rank
abbrev pub child_for : ℕ → List Cell → (right : ℕ) → ℕ
child_for key [] right = right
child_for key (c ∷ cs) right = if nat_le key (rank c.key) then c.left else child_for key cs right
