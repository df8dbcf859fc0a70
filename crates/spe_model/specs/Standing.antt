-- Pages that stand for a database: each tree, chain and free list is whole, and no page is in two of them.
use Rattle.std.specs.Prelude.{◌≡◌, ◌≢◌, ℕ, zero, suc, ℤ, ◌-◌, ◌<◌, ◌≤◌, Bool, true, false, not, List, [], ◌∷◌, ◌++◌, length, take, map, Option, Some, None, Ok, All, is_some, if◌then◌else◌}
use Rattle.std.specs.List.{flat_map}
use Rattle.spe_model.specs.declared.header.Header.{Header}
use Rattle.spe_model.specs.declared.page.Cell.{Cell}
use Rattle.spe_model.specs.declared.page.Kind.TheVariants.{IndexLeaf, IndexInterior}
use Rattle.spe_model.specs.declared.value.Value.{Value}
use Rattle.spe_model.specs.declared.table.TableDef.{TableDef}
use Rattle.spe_model.specs.declared.value.Value.TheVariants.{Int}
use Rattle.spe_model.specs.Alias.{with_alias}
use Rattle.spe_model.specs.Big.{u32_at}
use Rattle.spe_model.specs.Chain.{IsChain, links, next_page}
use Rattle.spe_model.specs.Database.{Database, Object, Table, Other, Row, padded}
use Rattle.spe_model.specs.FreeList.{AreTrunks, trunk_pages, names_node, first_trunks}
use Rattle.spe_model.specs.Header.{header_of}
use Rattle.spe_model.specs.Paging.{Paging}
use Rattle.spe_model.specs.Record.{record_of}
use Rattle.spe_model.specs.Schema.{SchemaRow, schema_of, have_own_names, is_table_row, is_index_page, root_of, table_of}
use Rattle.spe_model.specs.Tree.{IsNode, IsTableTree, fan, node_cells, node_right, rest_of, tree_rows}

-- the first fact where a test holds, else the second
abbrev pub Whether : Bool → Type 0 → Type 0 → Type 0
Whether true A B = A
Whether false A B = B

-- each cell has its chain
abbrev pub AreChained : (usable : ℕ) → Paging → List Cell → Type 0
AreChained usable pages cells = All (λ (c : Cell). IsChain usable pages (rest_of c) c.chain) cells

abbrev pub AreBelow : (ℕ → Type 0) → List Cell → (right : ℕ) → Type 0
AreBelow T [] right = T right
AreBelow T (c ∷ cs) right = T c.left × AreBelow T cs right

-- the tree of an index, with all leaves so many levels below the page; its entries are not looked at
abbrev pub IsIndexTree : (usable : ℕ) → Paging → (height page : ℕ) → Type 0
IsIndexTree usable pages zero page = IsNode IndexLeaf usable pages page × AreChained usable pages (node_cells usable pages page)
IsIndexTree usable pages (suc height) page =
    IsNode IndexInterior usable pages page × AreChained usable pages (node_cells usable pages page)
    × AreBelow (IsIndexTree usable pages height) (node_cells usable pages page) (node_right usable pages page)

-- A tree in the file: its sort, how many levels its leaves stand below its root, and the root.
pub record Tree : Type 0 where
  pub table : Bool
  pub height : ℕ
  pub root : ℕ

abbrev pub IsTreeOf : (usable : ℕ) → Paging → Tree → Type 0
IsTreeOf usable pages t =
    Whether t.table (IsTableTree usable pages t.height t.root) ((t.height < 20) × IsIndexTree usable pages t.height t.root)

-- the pages of a chain
abbrev pub link_pages : Paging → (count page : ℕ) → List ℕ
link_pages pages zero page = []
link_pages pages (suc count) page = page ∷ link_pages pages count (next_page pages page)

abbrev pub chain_pages : (usable : ℕ) → Paging → Cell → List ℕ
chain_pages usable pages c = link_pages pages (links usable (rest_of c)) c.chain

-- the pages of a tree and of its chains
abbrev pub all_pages : (usable : ℕ) → Paging → (height page : ℕ) → List ℕ
all_pages usable pages zero page = page ∷ flat_map (chain_pages usable pages) (node_cells usable pages page)
all_pages usable pages (suc height) page =
    page ∷ flat_map (chain_pages usable pages) (node_cells usable pages page)
    ++ fan (all_pages usable pages height) (node_cells usable pages page) (node_right usable pages page)

abbrev pub pages_of_tree : (usable : ℕ) → Paging → Tree → List ℕ
pages_of_tree usable pages t = all_pages usable pages t.height t.root

-- Free pages: the numbers of trunks of each list, by its first trunk.
pub record FreeChain : Type 0 where
  pub trunks : ℕ
  pub first : ℕ

abbrev pub IsFreeChain : (usable : ℕ) → Paging → FreeChain → Type 0
IsFreeChain usable pages f = AreTrunks usable pages f.trunks f.first

abbrev pub chain_of_free : Paging → FreeChain → List ℕ
chain_of_free pages f = trunk_pages pages f.trunks f.first

-- in stock form one list, as long as offset 36 says
pub record IsStock (usable : ℕ) (pages : Paging) (lists : List FreeChain) (listed : List ℕ) : Type 0 where
  pub only : FreeChain
  pub one : lists ≡ only ∷ []
  pub first : only.first ≡ u32_at (pages 1) 32
  pub whole : IsFreeChain usable pages only
  pub counted : length (chain_of_free pages only) ≡ u32_at (pages 1) 36
  pub pages_are : listed ≡ chain_of_free pages only

-- in server form a list for each entry of the node page, which has 1 to 16
pub record IsServer (usable : ℕ) (pages : Paging) (lists : List FreeChain) (listed : List ℕ) : Type 0 where
  pub node : ℕ
  pub node_is : node ≡ u32_at (pages 1) 32
  pub some : 1 ≤ length lists
  pub few : length lists ≤ 16
  pub firsts : map (λ (f : FreeChain). f.first) lists ≡ first_trunks pages node
  pub whole : All (IsFreeChain usable pages) lists
  pub started : All (λ (f : FreeChain). f.first ≢ 0) lists
  pub pages_are : listed ≡ node ∷ flat_map (chain_of_free pages) lists

-- the free lists, and the pages that they and the node take
abbrev pub AreFree : (usable : ℕ) → Paging → List FreeChain → List ℕ → Type 0
AreFree usable pages lists listed = Whether (names_node (pages 1)) (IsServer usable pages lists listed) (IsStock usable pages lists listed)

-- no number is there twice
abbrev pub AreDistinct : List ℕ → Type 0
AreDistinct [] = Unit {0}
AreDistinct (n ∷ ns) = All (λ m. n ≢ m) ns × AreDistinct ns

abbrev pub IsOneOf : (count page : ℕ) → Type 0
IsOneOf count page = (1 ≤ page) × (page ≤ count)

-- the values of a row, with NULL for each missing column, and with the rowid in the column that is another name of it
abbrev pub shown : TableDef → ℤ → List Value → List Value
shown table rowid values = with_alias table.alias (Int rowid) (padded values (length table.columns))

-- a row of an open table: its record has at most as many fields as the table has columns
abbrev pub IsTableRow : TableDef → ℤ × List ℕ → Row → Type 0
IsTableRow table (rowid, payload) row =
    (values : List Value) × (record_of payload ≡ Ok values) × (length values ≤ length table.columns) × (row ≡ (rowid, shown table rowid values))

abbrev pub AreTableRows : TableDef → List (ℤ × List ℕ) → List Row → Type 0
AreTableRows table [] [] = Unit {0}
AreTableRows table [] (r ∷ rs) = ⊥
AreTableRows table (x ∷ xs) [] = ⊥
AreTableRows table (x ∷ xs) (r ∷ rs) = IsTableRow table x r × AreTableRows table xs rs

-- what a row of the schema stands for, with these rows of its tree
abbrev pub IsObjectOf : (usable : ℕ) → Paging → List SchemaRow → SchemaRow → List (ℤ × List ℕ) → Object → Type 0
IsObjectOf usable pages rows row stored (Table table found) =
    (is_table_row row ≡ true) × (table ≡ table_of (is_index_page pages) rows row)
    × Whether (is_some table.closed) (found ≡ []) (AreTableRows table stored found)
IsObjectOf usable pages rows row stored (Other kind name on) =
    (is_table_row row ≡ false) × (kind ≡ row.type) × (name ≡ row.name) × (on ≡ row.tbl_name)

abbrev pub stored_rows : (usable : ℕ) → Paging → Option Tree → List (ℤ × List ℕ)
stored_rows usable pages None = []
stored_rows usable pages (Some t) = if t.table then tree_rows usable pages t.height t.root else []

-- a row of the schema that names a root page has a tree there, of the sort of that page; any other has none
abbrev pub HasTree : (usable : ℕ) → Paging → (root : ℕ) → Option Tree → Type 0
HasTree usable pages root None = root ≡ 0
HasTree usable pages root (Some t) = (root ≢ 0) × (t.root ≡ root) × (t.table ≡ not (is_index_page pages root)) × IsTreeOf usable pages t

pub record IsEntry (usable : ℕ) (pages : Paging) (rows : List SchemaRow) (row : SchemaRow) (grown : Option Tree) (named : ℤ × Object) : Type 0 where
  pub rowid : named.0 ≡ row.rowid
  pub tree : HasTree usable pages (root_of row.rootpage) grown
  pub object : IsObjectOf usable pages rows row (stored_rows usable pages grown) named.1

abbrev pub AreEntries : (usable : ℕ) → Paging → (all : List SchemaRow) → List SchemaRow → List (Option Tree) → Database → Type 0
AreEntries usable pages all [] [] [] = Unit {0}
AreEntries usable pages all (r ∷ rs) (t ∷ ts) (o ∷ os) = IsEntry usable pages all r t o × AreEntries usable pages all rs ts os
AreEntries usable pages all _ _ _ = ⊥

abbrev pub pages_of_some : (usable : ℕ) → Paging → Option Tree → List ℕ
pages_of_some usable pages None = []
pages_of_some usable pages (Some t) = pages_of_tree usable pages t

-- The pages stand for a database, with so many usable bytes in each.
pub record StandsFor (usable count : ℕ) (pages : Paging) (db : Database) : Type 0 where
  pub height : ℕ
  pub schema : IsTableTree usable pages height 1
  pub rows : List SchemaRow
  pub rows_are : schema_of (tree_rows usable pages height 1) ≡ Some rows
  pub named : have_own_names rows ≡ true
  pub trees : List (Option Tree)
  pub entries : AreEntries usable pages rows rows trees db
  pub lists : List FreeChain
  pub listed : List ℕ
  pub free : AreFree usable pages lists listed
  pub distinct : AreDistinct (all_pages usable pages height 1 ++ flat_map (pages_of_some usable pages) trees ++ listed)
  pub within : All (IsOneOf count) (all_pages usable pages height 1 ++ flat_map (pages_of_some usable pages) trees ++ listed)

-- The same, with a legal header on page 1.
pub record Stands (count : ℕ) (pages : Paging) (db : Database) : Type 0 where
  pub header : Header
  pub legal : header_of (take 100 (pages 1)) ≡ Ok header
  pub body : StandsFor (header.page_size - header.reserved) count pages db
