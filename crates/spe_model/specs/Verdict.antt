-- Whether the pages of a file are sound: the first rule that is broken, in the order of the walk, or what there is.
use Rattle.std.specs.Prelude.{ℕ, ℤ, ◌==◌, ◌&&◌, not, nat_le, Bool, false, int_lt, List, [], ◌∷◌, ◌++◌, length, map, filter, sum, Option, Some, None, Result, Ok, Err, is_some, if◌then◌else◌}
use Rattle.std.specs.List.{flat_map, list_any, take_while}
use Rattle.spe_model.specs.declared.value.Value.{Value}
use Rattle.spe_model.specs.declared.table.TableDef.{TableDef}
use Rattle.spe_model.specs.declared.record.RecordFault.{RecordFault}
use Rattle.spe_model.specs.declared.verdict.Verdict.{Verdict}
use Rattle.spe_model.specs.declared.verdict.Verdict.TheVariants as verdicts
use Rattle.spe_model.specs.Big.{u32_at}
use Rattle.spe_model.specs.Paging.{Paging}
use Rattle.spe_model.specs.Record.{record_of}
use Rattle.spe_model.specs.FreeList.{names_node, first_trunks, is_list_count}
use Rattle.spe_model.specs.Agree.{agree}
use Rattle.spe_model.specs.Schema.{SchemaRow, schema_row_of, is_table_row, is_index_page, root_of, table_of}
use Rattle.spe_model.specs.Walk.{Mark, Names, Keeps, first_broken, index_marks, levels_at_leaf, table_marks, trunk_marks, walk_rows, walk_trunks}

-- a row of a tree with the leaf that it stands on
abbrev pub LeafRow : Type 0
LeafRow = ℕ × ℤ × List ℕ

unfoldable pub tree_levels : ℕ
tree_levels = 20

-- the record has a value, with at most so many fields
abbrev pub fits : ℕ → Result (List Value) RecordFault → Bool
fits columns (Ok values) = nat_le (length values) columns
fits columns (Err fault) = false

abbrev pub with_leaf : ℕ → Option SchemaRow → List (ℕ × SchemaRow)
with_leaf leaf None = []
with_leaf leaf (Some row) = (leaf, row) ∷ []

-- the schema rows, each with its leaf, by ascending rowid
abbrev pub placed_rows : (usable : ℕ) → Paging → List (ℕ × SchemaRow)
placed_rows usable pages = flat_map (λ (r : LeafRow). with_leaf r.0 (schema_row_of (r.1, r.2))) (walk_rows usable pages tree_levels 1)

abbrev pub schema_rows : (usable : ℕ) → Paging → List SchemaRow
schema_rows usable pages = map (λ (r : ℕ × SchemaRow). r.1) (placed_rows usable pages)

-- the rows before the first whose rowid is not below this one
abbrev pub before : ℤ → List SchemaRow → List SchemaRow
before rowid rows = take_while (λ (r : SchemaRow). int_lt r.rowid rowid) rows

-- a table before this row has its name
abbrev pub is_taken : List SchemaRow → SchemaRow → Bool
is_taken rows row = list_any (λ (r : SchemaRow). is_table_row r && agree r.name row.name) (before row.rowid rows)

abbrev pub is_right_row : List SchemaRow → Option SchemaRow → Bool
is_right_row rows None = false
is_right_row rows (Some row) = not (is_table_row row && is_taken rows row)

-- rules 8 and 9 at a row of the schema
abbrev pub schema_marks : List SchemaRow → (leaf : ℕ) → ℤ → List ℕ → List Mark
schema_marks rows leaf rowid payload = Keeps leaf 8 (fits 5 (record_of payload)) ∷ Keeps leaf 9 (is_right_row rows (schema_row_of (rowid, payload))) ∷ []

-- rule 8 at a row of an open table; nothing is tried of a row that belongs to no open table
abbrev pub record_marks : ℕ → (leaf : ℕ) → ℤ → List ℕ → List Mark
record_marks columns leaf rowid payload = Keeps leaf 8 (fits columns (record_of payload)) ∷ []

abbrev pub no_marks : (leaf : ℕ) → ℤ → List ℕ → List Mark
no_marks leaf rowid payload = []

-- the table that a row of the schema names
abbrev pub table_in : (usable : ℕ) → Paging → SchemaRow → TableDef
table_in usable pages row = table_of (is_index_page pages) (schema_rows usable pages) row

abbrev pub is_open : (usable : ℕ) → Paging → SchemaRow → Bool
is_open usable pages row = is_table_row row && not (is_some (table_in usable pages row).closed)

abbrev pub own_marks : (usable : ℕ) → Paging → SchemaRow → (leaf : ℕ) → ℤ → List ℕ → List Mark
own_marks usable pages row leaf rowid payload =
    if is_open usable pages row then record_marks (length (table_in usable pages row).columns) leaf rowid payload else []

abbrev pub root_marks : (usable : ℕ) → Paging → (leaf : ℕ) → SchemaRow → (root : ℕ) → List Mark
root_marks usable pages leaf row root =
    let stand = levels_at_leaf usable pages tree_levels root in
    if is_index_page pages root then index_marks usable pages stand tree_levels leaf root
    else table_marks (own_marks usable pages row) usable pages stand tree_levels 0 18446744073709551616 leaf root

-- the tree of an object of the schema, where it has a root
abbrev pub object_marks : (usable : ℕ) → Paging → ℕ × SchemaRow → List Mark
object_marks usable pages placed =
    if root_of placed.1.rootpage == 0 then [] else root_marks usable pages placed.0 placed.1 (root_of placed.1.rootpage)

-- a first trunk is never page 0
abbrev pub list_marks : (usable count : ℕ) → Paging → (node trunk : ℕ) → List Mark
list_marks usable count pages node trunk = if trunk == 0 then Names node 0 ∷ [] else trunk_marks usable pages count node trunk

abbrev pub node_marks : (usable count : ℕ) → Paging → (node : ℕ) → List Mark
node_marks usable count pages node =
    Names 1 node ∷ Keeps node 11 (is_list_count (u32_at (pages node) 0)) ∷ flat_map (list_marks usable count pages node) (first_trunks pages node)

abbrev pub stock_marks : (usable count : ℕ) → Paging → List Mark
stock_marks usable count pages =
    trunk_marks usable pages count 1 (u32_at (pages 1) 32)
    ++ Keeps 1 10 (length (walk_trunks pages count (u32_at (pages 1) 32)) == u32_at (pages 1) 36) ∷ []

abbrev pub free_marks : (usable count : ℕ) → Paging → List Mark
free_marks usable count pages = if names_node (pages 1) then node_marks usable count pages (u32_at (pages 1) 32) else stock_marks usable count pages

-- all that is tried, in its order: the schema, the trees of its rows, the free lists
unfoldable pub all_marks : (usable count : ℕ) → Paging → List Mark
all_marks usable count pages =
    table_marks (schema_marks (schema_rows usable pages)) usable pages (levels_at_leaf usable pages tree_levels 1) tree_levels 0 18446744073709551616 1 1
    ++ flat_map (object_marks usable pages) (placed_rows usable pages)
    ++ free_marks usable count pages

-- the free pages, the node page not among them
abbrev pub free_pages : (count : ℕ) → Paging → List ℕ
free_pages count pages =
    if names_node (pages 1) then flat_map (walk_trunks pages count) (first_trunks pages (u32_at (pages 1) 32))
    else walk_trunks pages count (u32_at (pages 1) 32)

-- how many rows a row of the schema stands for
abbrev pub open_rows : (usable : ℕ) → Paging → SchemaRow → ℕ
open_rows usable pages row = if is_open usable pages row then length (walk_rows usable pages tree_levels (root_of row.rootpage)) else 0

abbrev pub verdict_with : (usable count : ℕ) → Paging → Option (ℕ × ℕ) → Verdict
verdict_with usable count pages (Some broken) = verdicts.Broken broken.0 broken.1
verdict_with usable count pages None = verdicts.Stands
    (length (filter is_table_row (schema_rows usable pages)))
    (sum (map (open_rows usable pages) (schema_rows usable pages)))
    (length (free_pages count pages))

-- the verdict over so many pages
unfoldable pub verdict_of : (usable count : ℕ) → Paging → Verdict
verdict_of usable count pages = verdict_with usable count pages (first_broken count [] (all_marks usable count pages))
