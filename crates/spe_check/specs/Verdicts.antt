-- What a walk over all pages of a database tries, and what it counts.
use Rattle.std.specs.Prelude.{◌≡◌, ℕ, ◌+◌, min, if◌then◌else◌, List, length, map, filter, sum, take, Result, Ok, IfOk, Vec}
use Rattle.std.specs.Global.{Global}
use Rattle.spe_model.specs.declared.header.Header.{Header}
use Rattle.spe_model.specs.declared.verdict.Verdict.{Verdict}
use Rattle.spe_model.specs.declared.verdict.Verdict.TheVariants as verdicts
use Rattle.spe_model.specs.Header.{header_of}
use Rattle.spe_model.specs.Paging.{Paging}
use Rattle.spe_model.specs.Schema.{SchemaRow, is_table_row}
use Rattle.spe_model.specs.Verdict.{all_marks, free_pages, open_rows, placed_rows, schema_marks, schema_rows, tree_levels}
use Rattle.spe_model.specs.Walk.{Mark, levels_at_leaf, table_marks}
use Rattle.spe_space.specs.declared.pages.Pages.{Ghosts}
use Rattle.spe_check.specs.declared.met.Met.{Met}
use Rattle.spe_check.specs.declared.halt.Halt.{Halt}
use Rattle.spe_check.specs.MetPages.{has_met}
use Rattle.spe_check.specs.RecordRows.{saturated}
use Rattle.spe_check.specs.SchemaRows.{rows_in}
use Rattle.spe_check.specs.Shown.{Each}
use Rattle.spe_check.specs.Tries.{Tries}

-- the number, or the greatest of 32 bits
abbrev pub narrowed : ℕ → ℕ
narrowed n = min n 4294967295

abbrev pub tables_among : List (ℕ × SchemaRow) → ℕ
tables_among placed = length (filter is_table_row (rows_in placed))

-- so many tables with this row, where it is a table's
abbrev pub with_row : (tables : ℕ) → ℕ × SchemaRow → ℕ
with_row tables placed = if is_table_row placed.1 then narrowed (tables + 1) else tables

-- the tree of the schema from page 1 on
abbrev pub schema_tree : (usable : ℕ) → Paging → List Mark
schema_tree usable pages =
    table_marks (schema_marks (schema_rows usable pages)) usable pages (levels_at_leaf usable pages tree_levels 1) tree_levels 0 18446744073709551616 1 1

abbrev pub TriesSchema : {P : Type 0} (g : Ghosts P) (late : P) (before after : Met) → Result (Vec (ℕ × SchemaRow) Global) Halt → Type 0
TriesSchema g late before after result =
    Each g late (λ usable pages. Tries before.pages (has_met before) (has_met after) (schema_tree usable pages) result
    × IfOk result (λ placed. placed.items ≡ placed_rows usable pages))

-- what is counted over pages of which no rule is broken
abbrev pub counted : (usable count : ℕ) → Paging → Verdict
counted usable count pages = verdicts.Stands
    (narrowed (length (filter is_table_row (schema_rows usable pages))))
    (saturated (sum (map (open_rows usable pages) (schema_rows usable pages))))
    (narrowed (length (free_pages count pages)))

-- all that is to be tried of pages that begin with this header is tried
abbrev pub TriesAll : {P : Type 0} (g : Ghosts P) (late : P) (before after : Met) → Header → Result Verdict Halt → Type 0
TriesAll g late before after header result =
    Each g late (λ usable pages. header_of (take 100 (pages 1)) ≡ Ok header
    → Tries before.pages (has_met before) (has_met after) (all_marks usable before.pages pages) result
    × IfOk result (λ verdict. verdict ≡ counted usable before.pages pages))
