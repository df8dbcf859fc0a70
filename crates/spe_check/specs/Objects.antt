-- Trying the trees of the objects that the schema names.
use Rattle.std.specs.Prelude.{◌≡◌, ℕ, ◌+◌, ◌&&◌, ◌==◌, not, Bool, true, false, List, map, sum, length, is_some, Option, Some, None, Result, Ok, IfOk, if◌then◌else◌}
use Rattle.std.specs.List.{flat_map}
use Rattle.std.specs.declared.alloc.AllocError.{AllocError}
use Rattle.spe_model.specs.declared.page.PageCells.{PageCells}
use Rattle.spe_model.specs.Paging.{Paging}
use Rattle.spe_model.specs.Schema.{SchemaRow, is_rooted, is_table_row, root_of, table_of}
use Rattle.spe_model.specs.Tree.{node_at}
use Rattle.spe_model.specs.Verdict.{object_marks, open_rows, root_marks, schema_rows, tree_levels}
use Rattle.spe_model.specs.Walk.{Mark, RowMarks, index_marks, levels_at_leaf, table_marks}
use Rattle.spe_space.specs.declared.pages.Pages.{Ghosts}
use Rattle.spe_catalog.specs.Table.{Attaches}
use Rattle.spe_catalog.specs.declared.table.Attached.{Attached}
use Rattle.spe_check.specs.declared.met.Met.{Met}
use Rattle.spe_check.specs.declared.halt.Halt.{Halt}
use Rattle.spe_check.specs.MetPages.{has_met}
use Rattle.spe_check.specs.Pages.{behind_read}
use Rattle.spe_check.specs.RecordRows.{saturated}
use Rattle.spe_check.specs.SchemaRows.{rows_in}
use Rattle.spe_check.specs.Shown.{Each}
use Rattle.spe_check.specs.Tries.{Leads, Tries}

-- how many columns the open table of a row has, where it is one's row
abbrev pub open_columns : (is_index : ℕ → Bool) → List SchemaRow → SchemaRow → Option ℕ
open_columns is_index rows row =
    if is_table_row row && not (is_some (table_of is_index rows row).closed) then Some (length (table_of is_index rows row).columns) else None

-- the same, among rows that have these indexes and triggers, where the root is a page of a table
abbrev pub OpensTable : Attached → SchemaRow → Result (Option ℕ) AllocError → Type 0
OpensTable attached row result =
    (is_index : ℕ → Bool) (rows : List SchemaRow) → Attaches rows attached → is_rooted is_index row.rootpage ≡ true
    → IfOk result (λ columns. columns ≡ open_columns is_index rows row)

-- the tree of a table from its root on, by what is tried of its rows
abbrev pub table_tree : RowMarks → (usable : ℕ) → Paging → (holder root : ℕ) → List Mark
table_tree own usable pages holder root = table_marks own usable pages (levels_at_leaf usable pages tree_levels root) tree_levels 0 18446744073709551616 holder root

abbrev pub index_tree : (usable : ℕ) → Paging → (holder root : ℕ) → List Mark
index_tree usable pages holder root = index_marks usable pages (levels_at_leaf usable pages tree_levels root) tree_levels holder root

-- a tree is tried from its root on, which was read and holds this, and so many rows are counted
abbrev pub TriesFrom : {P : Type 0} (g : Ghosts P) (late : P) (before after : Met) (marks : (usable : ℕ) → Paging → (holder root : ℕ) → List Mark) (counted : (usable : ℕ) → Paging → ℕ)
    → (root : ℕ) → PageCells → Result ℕ Halt → Type 0
TriesFrom g late before after marks counted root node result =
    Each g late (λ usable pages. (holder : ℕ) → node_at usable pages root ≡ Ok node
    → Tries before.pages (has_met before) (has_met after) (behind_read (marks usable pages holder root)) result × IfOk result (λ rows. rows ≡ counted usable pages))

-- the tree of a row's object is tried from its root on, which was read and holds this
abbrev pub TriesTree : {P : Type 0} (g : Ghosts P) (late : P) (before after : Met) → Attached → (root : ℕ) → SchemaRow → PageCells → Result ℕ Halt → Type 0
TriesTree g late before after attached root row node result =
    Each g late (λ usable pages. (holder : ℕ) → Attaches (schema_rows usable pages) attached → root ≡ root_of row.rootpage → (root == 0) ≡ false → node_at usable pages root ≡ Ok node
    → Tries before.pages (has_met before) (has_met after) (behind_read (root_marks usable pages holder row root)) result
    × IfOk result (λ rows. rows ≡ saturated (open_rows usable pages row)))

abbrev pub TriesObject : {P : Type 0} (g : Ghosts P) (late : P) (before after : Met) → Attached → ℕ × SchemaRow → Result ℕ Halt → Type 0
TriesObject g late before after attached placed result =
    Each g late (λ usable pages. Attaches (schema_rows usable pages) attached
    → Tries before.pages (has_met before) (has_met after) (object_marks usable pages placed) result
    × IfOk result (λ rows. rows ≡ saturated (open_rows usable pages placed.1)))

abbrev pub rows_of_open : (usable : ℕ) → Paging → List (ℕ × SchemaRow) → ℕ
rows_of_open usable pages placed = sum (map (open_rows usable pages) (rows_in placed))

-- where these are the rows of the schema, the trees of their objects are tried, and the rows of open tables are counted
abbrev pub TriesObjects : {P : Type 0} (g : Ghosts P) (late : P) (before after : Met) → List (ℕ × SchemaRow) → Result ℕ Halt → Type 0
TriesObjects g late before after placed result =
    Each g late (λ usable pages. rows_in placed ≡ schema_rows usable pages
    → Tries before.pages (has_met before) (has_met after) (flat_map (object_marks usable pages) placed) result
    × IfOk result (λ rows. rows ≡ saturated (rows_of_open usable pages placed)))

-- in the loop: what was tried and counted, and what is left
pub record IsTried (usable : ℕ) (pages : Paging) (before now : Met) (placed left : List (ℕ × SchemaRow)) (rows : ℕ) : Type 0 where
  pub tried : Leads before.pages (has_met before) (flat_map (object_marks usable pages) placed) (has_met now) (flat_map (object_marks usable pages) left)
  pub counted : saturated (rows + rows_of_open usable pages left) ≡ saturated (rows_of_open usable pages placed)
