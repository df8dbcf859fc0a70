-- Tables, open and closed.
use Rattle.std.specs.Prelude.{◌≡◌, ℕ, Bool, not, ◌||◌, List, Option, Some, None, Result, IfOk, codes, if◌then◌else◌}
use Rattle.std.specs.List.{list_any}
use Rattle.std.specs.declared.alloc.AllocError.{AllocError}
use Rattle.spe_model.specs.declared.table.Closed.{Closed}
use Rattle.spe_model.specs.declared.table.Closed.TheVariants.{Reserved, Definition, Indexed, Triggered}
use Rattle.spe_model.specs.declared.table.TableDef.{TableDef}
use Rattle.spe_model.specs.Schema.{SchemaRow, is_on, is_own_name, is_rooted, table_of}
use Rattle.spe_catalog.specs.Names.{has_name}
use Rattle.spe_catalog.specs.declared.table.Attached.{Attached}

-- the names of the tables that objects of this type belong to, among these rows
abbrev pub AreOn : (type : List ℕ) → List SchemaRow → (names : List (List ℕ)) → Type 0
AreOn type rows names = (name : List ℕ) → has_name names name ≡ list_any (is_on type name) rows

-- the name of the table of an object of this type joins others
abbrev pub AddsOn : (type : List ℕ) → SchemaRow → (old new : List (List ℕ)) → Type 0
AddsOn type row old new = (name : List ℕ) → has_name new name ≡ (is_on type name row || has_name old name)

-- the tables that have an index or a trigger among these rows
pub record Attaches (rows : List SchemaRow) (attached : Attached) : Type 0 where
  pub indexed : AreOn (codes "index") rows attached.indexed
  pub triggered : AreOn (codes "trigger") rows attached.triggered

-- the first reason for which a table of this name is closed, if it is; `is_understood` tells of its definition and its root
abbrev pub first_reason : Attached → (is_understood : Bool) → List ℕ → Option Closed
first_reason attached is_understood name =
    if is_own_name name then Some Reserved
    else (if not is_understood then Some Definition
    else (if has_name attached.indexed name then Some Indexed else (if has_name attached.triggered name then Some Triggered else None)))

-- the table of a row, whatever the other rows are that have these indexes and triggers, and whatever pages are pages of
-- an index, as long as that is told right of this row's root
abbrev pub MakesTable : Attached → Bool → SchemaRow → Result TableDef AllocError → Type 0
MakesTable attached rooted row result =
    (is_index : ℕ → Bool) (rows : List SchemaRow) → Attaches rows attached → rooted ≡ is_rooted is_index row.rootpage
    → IfOk result (λ table. table ≡ table_of is_index rows row)
