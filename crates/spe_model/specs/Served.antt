-- Pages that can be served to transactions that run at once, and what of it the trees alone need.
use Rattle.std.specs.Prelude.{◌≡◌, ◌⊎◌, ℕ, zero, suc, ◌-◌, ◌*◌, ◌^◌, ◌≤◌, Bool, true, not, ◌&&◌, List, [], ◌∷◌, ◌++◌, length, take, map, Option, Some, None, Ok, All, is_some}
use Rattle.std.specs.List.{Contains, flat_map}
use Rattle.spe_model.specs.declared.header.Header.{Header}
use Rattle.spe_model.specs.Big.{u32_at}
use Rattle.spe_model.specs.Database.{Database}
use Rattle.spe_model.specs.FreeList.{names_node, is_list_count}
use Rattle.spe_model.specs.Header.{header_of, is_size_valid}
use Rattle.spe_model.specs.Paging.{Paging}
use Rattle.spe_model.specs.Schema.{SchemaRow, is_table_row, is_index_page, table_of}
use Rattle.spe_model.specs.Standing.{Whether, AreBelow, Tree, HasTree, FreeChain, AreFree, AreDistinct, IsOneOf, StandsFor, pages_of_tree}
use Rattle.spe_model.specs.Tree.{node_cells, node_right}

-- page 1 names a node page, which names 1 to 16 free lists
abbrev pub IsPrepared : Paging → Type 0
IsPrepared pages = (names_node (pages 1) ≡ true) × (is_list_count (u32_at (pages (u32_at (pages 1) 32)) 0) ≡ true)

-- page 1 has a legal header that names this number of pages, which counts and keeps the file within its limit
pub record HasHeader (count : ℕ) (pages : Paging) (header : Header) : Type 0 where
  pub legal : header_of (take 100 (pages 1)) ≡ Ok header
  pub valid : is_size_valid header ≡ true
  pub number : header.pages ≡ count
  pub few : count * header.page_size ≤ 2 ^ 30

abbrev pub usable_in : Header → ℕ
usable_in header = header.page_size - header.reserved

-- each interior page of a tree has a cell; nothing is asked of page 1 itself
abbrev pub HasCells : (usable : ℕ) → Paging → (height page : ℕ) → Type 0
HasCells usable pages zero page = Unit {0}
HasCells usable pages (suc height) page =
    ((page ≡ 1) ⊎ (1 ≤ length (node_cells usable pages page)))
    × AreBelow (HasCells usable pages height) (node_cells usable pages page) (node_right usable pages page)

-- the tree of an open table has such pages alone
abbrev pub IsFilled : (usable : ℕ) → Paging → List SchemaRow → SchemaRow → Option Tree → Type 0
IsFilled usable pages rows row None = Unit {0}
IsFilled usable pages rows row (Some t) =
    Whether (is_table_row row && not (is_some (table_of (is_index_page pages) rows row).closed)) (HasCells usable pages t.height t.root) (Unit {0})

abbrev pub AreFilled : (usable : ℕ) → Paging → (all : List SchemaRow) → List SchemaRow → List (Option Tree) → Type 0
AreFilled usable pages all (r ∷ rs) (t ∷ ts) = IsFilled usable pages all r t × AreFilled usable pages all rs ts
AreFilled usable pages all _ _ = Unit {0}

-- So many pages are served for a database: they stand for it and are prepared, and no interior page of an open table is
-- without a cell.
pub record Served (count : ℕ) (pages : Paging) (db : Database) : Type 0 where
  pub header : Header
  pub front : HasHeader count pages header
  pub prepared : IsPrepared pages
  pub stands : StandsFor (usable_in header) count pages db
  pub filled : AreFilled (usable_in header) pages stands.rows stands.rows stands.trees

-- A root page, and whether its tree is marked, so that each of its interior pages has a cell.
pub record Root : Type 0 where
  pub page : ℕ
  pub marked : Bool

abbrev pub IsGrown : (usable : ℕ) → Paging → Root → Tree → Type 0
IsGrown usable pages root t = HasTree usable pages root.page (Some t) × Whether root.marked (HasCells usable pages t.height t.root) (Unit {0})

abbrev pub AreGrown : (usable : ℕ) → Paging → List Root → List Tree → Type 0
AreGrown usable pages [] [] = Unit {0}
AreGrown usable pages (r ∷ rs) (t ∷ ts) = IsGrown usable pages r t × AreGrown usable pages rs ts
AreGrown usable pages _ _ = ⊥

-- So many pages are framed for some roots, page 1 among them: these have whole trees, and nothing is asked of what the
-- rows of the trees say.
pub record Framed (count : ℕ) (pages : Paging) (roots : List Root) : Type 0 where
  pub header : Header
  pub front : HasHeader count pages header
  pub prepared : IsPrepared pages
  pub first : Contains (map (λ (r : Root). r.page) roots) 1
  pub trees : List Tree
  pub grown : AreGrown (usable_in header) pages roots trees
  pub lists : List FreeChain
  pub listed : List ℕ
  pub free : AreFree (usable_in header) pages lists listed
  pub distinct : AreDistinct (flat_map (pages_of_tree (usable_in header) pages) trees ++ listed)
  pub within : All (IsOneOf count) (flat_map (pages_of_tree (usable_in header) pages) trees ++ listed)
