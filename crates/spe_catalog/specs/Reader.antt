-- The catalog of pages, whatever the pages below a space are, as long as they agree with all that was given.
use Rattle.std.specs.Prelude.{◌≡◌, ◌⊎◌, ℕ, ℤ, Bool, true, not, ◌==◌, ◌&&◌, List, [], ◌∷◌, ◌++◌, map, Some, Result, Ok, Err, filter}
use Rattle.std.specs.List.{Contains}
use Rattle.spe_model.specs.declared.catalog.Entry.{Entry}
use Rattle.spe_model.specs.Paging.{Paging, Agrees}
use Rattle.spe_model.specs.Tree.{IsTableTree, tree_rows}
use Rattle.spe_model.specs.Schema.{SchemaRow, schema_of, is_table_row, is_index_page, entry_of, catalog_of, have_own_names}
use Rattle.spe_space.specs.Calls.{sight}
use Rattle.spe_space.specs.Found.{Answers}
use Rattle.spe_space.specs.declared.pages.Pages.{Ghosts}
use Rattle.spe_space.specs.declared.fault.TreeFault.{TreeFault}
use Rattle.spe_space.specs.declared.fault.TreeFault.TheVariants.{Space, Corrupt}
use Rattle.spe_search.specs.declared.pairs.Pair.{Pair}
use Rattle.spe_search.specs.Found.{HasDamage}
use Rattle.spe_search.specs.Leaves.{IsRead}
use Rattle.spe_search.specs.Pairs.{pair_seen}
use Rattle.spe_catalog.specs.declared.table.Attached.{Attached}
use Rattle.spe_catalog.specs.Table.{Attaches}
use Rattle.spe_catalog.specs.Reading.{has_number, have_numbers, IsBad}

abbrev pub TellsKind : {P : Type 0} (g : Ghosts P) (early late : P) (page : ℕ) (result : Result Bool TreeFault) → Type 0
TellsKind g early late page result = (pages : Paging) → Agrees pages (g.seen late) → Answers (λ b. b) (is_index_page (sight g early pages) page) result

abbrev pub TellsRoot : {P : Type 0} (g : Ghosts P) (early late : P) (root : ℕ) (result : Result Bool TreeFault) → Type 0
TellsRoot g early late root result =
    (pages : Paging) → Agrees pages (g.seen late) → Answers (λ b. b) (not (root == 0) && not (is_index_page (sight g early pages) root)) result

abbrev pub MakesEntry : {P : Type 0} (g : Ghosts P) (early late : P) (attached : Attached) (row : SchemaRow) (result : Result Entry TreeFault) → Type 0
MakesEntry g early late attached row result =
    (pages : Paging) → Agrees pages (g.seen late) → (all : List SchemaRow) → Attaches all attached → is_table_row row ≡ true → has_number row ≡ true
    → Answers (λ e. e) (entry_of (is_index_page (sight g early pages)) all row) result

-- these tables are pushed, or the space refused
abbrev pub Pushes : {X : Type 0} → List Entry → (old new : List Entry) → Result X TreeFault → Type 0
Pushes tables old new (Ok x) = new ≡ old ++ tables
Pushes tables old new (Err (Space f)) = Unit {0}
Pushes tables old new (Err (Corrupt page)) = ⊥

abbrev pub tables_of : (is_index : ℕ → Bool) → (all rows : List SchemaRow) → List Entry
tables_of is_index all rows = map (entry_of is_index all) (filter is_table_row rows)

abbrev pub PushesEntry : {P X : Type 0} (g : Ghosts P) (early late : P) (attached : Attached) (row : SchemaRow) (old new : List Entry) (result : Result X TreeFault) → Type 0
PushesEntry g early late attached row old new result =
    (pages : Paging) → Agrees pages (g.seen late) → (all : List SchemaRow) → Attaches all attached → has_number row ≡ true
    → Pushes (tables_of (is_index_page (sight g early pages)) all (row ∷ [])) old new result

abbrev pub MakesEntries : {P X : Type 0} (g : Ghosts P) (early late : P) (attached : Attached) (rows : List SchemaRow) (view : X → List Entry) (result : Result X TreeFault) → Type 0
MakesEntries g early late attached rows view result =
    (pages : Paging) → Agrees pages (g.seen late) → (all : List SchemaRow) → Attaches all attached → have_numbers rows ≡ true
    → Answers view (tables_of (is_index_page (sight g early pages)) all rows) result

-- in a loop over the rows: what is made, and the tables of the rows that are left
abbrev pub HasMade : {P : Type 0} (g : Ghosts P) (early now : P) (attached : Attached) (rows left : List SchemaRow) (made : List Entry) → Type 0
HasMade g early now attached rows left made =
    (pages : Paging) → Agrees pages (g.seen now) → (all : List SchemaRow) → Attaches all attached → have_numbers rows ≡ true
    → (have_numbers left ≡ true) × (made ++ tables_of (is_index_page (sight g early pages)) all left ≡ tables_of (is_index_page (sight g early pages)) all rows)

abbrev pub MakesCatalog : {P : Type 0} (g : Ghosts P) (early late : P) (rows : List SchemaRow) (result : Result (List Entry) TreeFault) → Type 0
MakesCatalog g early late rows result =
    (pages : Paging) → Agrees pages (g.seen late) → have_numbers rows ≡ true → Answers (λ c. c) (catalog_of (is_index_page (sight g early pages)) rows) result

-- the catalog of rows that are in order
pub record IsCatalog (pages : Paging) (stored : List (ℤ × List ℕ)) (catalog : List Entry) : Type 0 where
  pub rows : List SchemaRow
  pub rows_are : schema_of stored ≡ Some rows
  pub own : have_own_names rows ≡ true
  pub tables : catalog ≡ catalog_of (is_index_page pages) rows

-- Corrupt does not come where all rows are in order
abbrev pub CatalogOrBad : (pages : Paging) (stored : List (ℤ × List ℕ)) → Result (List Entry) TreeFault → Type 0
CatalogOrBad pages stored (Ok catalog) = IsCatalog pages stored catalog
CatalogOrBad pages stored (Err (Space f)) = Unit {0}
CatalogOrBad pages stored (Err (Corrupt at)) = (rows : List SchemaRow) → schema_of stored ≡ Some rows → have_own_names rows ≡ true → have_numbers rows ≡ true → ⊥

-- Where the schema's tree stands: the catalog of its rows, which are then in order
abbrev pub FindsCatalog : {P : Type 0} (g : Ghosts P) (early late : P) (result : Result (List Entry) TreeFault) → Type 0
FindsCatalog g early late result =
    (pages : Paging) → Agrees pages (g.seen late)
    → (height : ℕ) → IsTableTree (g.used early) (sight g early pages) height 1
    → CatalogOrBad (sight g early pages) (tree_rows (g.used early) (sight g early pages) height 1) result

-- a row of the schema, as the leaf of this number shows it, may not stand behind others, each of which a leaf shows; where the
-- schema's tree stands, these are the rows before it
pub record HasBadRow (usable : ℕ) (pages : Paging) (at : ℕ) : Type 0 where
  pub before : List Pair
  pub row : Pair
  pub leaf_is : row.leaf ≡ at
  pub read : IsRead usable pages 20 1 row
  pub others : (other : Pair) → Contains before other → IsRead usable pages 20 1 other
  pub bad : IsBad (map pair_seen before) (pair_seen row)
  pub stored : (height : ℕ) → IsTableTree usable pages height 1
      → (behind : List (ℤ × List ℕ)) × (tree_rows usable pages height 1 ≡ map pair_seen before ++ pair_seen row ∷ behind)

abbrev pub HasSchemaCause : {X : Type 0} (usable : ℕ) (pages : Paging) → Result X TreeFault → Type 0
HasSchemaCause usable pages (Ok x) = Unit {0}
HasSchemaCause usable pages (Err (Space f)) = Unit {0}
HasSchemaCause {X} usable pages (Err (Corrupt at)) = HasBadRow usable pages at ⊎ HasDamage {X = X} usable pages 1 20 (Err (Corrupt at))

-- Corrupt comes only for the leaf of such a row, or as of a walk over the schema's tree
abbrev pub NamesSchema : {P X : Type 0} (g : Ghosts P) (early late : P) (result : Result X TreeFault) → Type 0
NamesSchema g early late result = (pages : Paging) → Agrees pages (g.seen late) → HasSchemaCause (g.used early) (sight g early pages) result
