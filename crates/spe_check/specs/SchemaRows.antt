-- The rows of the schema, each with its leaf, as they come.
use Rattle.std.specs.Prelude.{◌≡◌, ℕ, ◌+◌, ◌&&◌, not, max, Bool, List, [], ◌∷◌, ◌++◌, map, Result}
use Rattle.std.specs.List.{flat_map, list_any}
use Rattle.spe_model.specs.Agree.{agree}
use Rattle.spe_model.specs.Schema.{SchemaRow, is_table_row, schema_row_of}
use Rattle.spe_model.specs.Tree.{rank}
use Rattle.spe_model.specs.Verdict.{LeafRow, schema_marks, with_leaf}
use Rattle.spe_model.specs.Walk.{Keeps}
use Rattle.spe_catalog.specs.Names.{has_name}
use Rattle.spe_check.specs.declared.halt.Halt.{Halt}
use Rattle.spe_check.specs.Tries.{Tries}
use Rattle.spe_check.specs.Visitor.{Outlook}

abbrev pub rows_in : List (ℕ × SchemaRow) → List SchemaRow
rows_in placed = map (λ (r : ℕ × SchemaRow). r.1) placed

-- the schema rows that these rows are
abbrev pub placed_of : List LeafRow → List (ℕ × SchemaRow)
placed_of rows = flat_map (λ (r : LeafRow). with_leaf r.0 (schema_row_of (r.1, r.2))) rows

-- what comes of rows behind those that are placed
abbrev pub schema_outlook : (placed : List (ℕ × SchemaRow)) → List LeafRow → Outlook
schema_outlook placed rows = record {
  marks = schema_marks (rows_in (placed ++ placed_of rows));
  placed = placed ++ placed_of rows;
  count = 0;
}

-- a number above the rank of each rowid
abbrev pub floor_of : List (ℕ × SchemaRow) → ℕ
floor_of [] = 0
floor_of (p ∷ ps) = max (rank p.1.rowid + 1) (floor_of ps)

-- a table whose name agrees with this one
abbrev pub is_named : List ℕ → SchemaRow → Bool
is_named name row = is_table_row row && agree row.name name

-- these are the names of the tables among these rows
abbrev pub AreNames : List (ℕ × SchemaRow) → (names : List (List ℕ)) → Type 0
AreNames placed names = (name : List ℕ) → has_name names name ≡ list_any (is_named name) (rows_in placed)

-- a row is no table whose name one of these has
abbrev pub is_free : List (ℕ × SchemaRow) → SchemaRow → Bool
is_free placed row = not (is_table_row row && list_any (is_named row.name) (rows_in placed))

abbrev pub TriesName : List (ℕ × SchemaRow) → (leaf : ℕ) → SchemaRow → Result (Unit {0}) Halt → Type 0
TriesName placed leaf row result = (count : ℕ) (met : ℕ → Bool) → Tries count met met (Keeps leaf 9 (is_free placed row) ∷ []) result
