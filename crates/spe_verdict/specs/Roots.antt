-- Served pages by their roots: page 1, and the roots that the rows of the schema name.
use Rattle.std.specs.Prelude.{◌≡◌, ℕ, Bool, false, not, ◌&&◌, ◌==◌, List, [], ◌∷◌, is_some, if◌then◌else◌}
use Rattle.std.specs.List.{flat_map}
use Rattle.spe_model.specs.Database.{Database}
use Rattle.spe_model.specs.Paging.{Paging}
use Rattle.spe_model.specs.Schema.{SchemaRow, is_index_page, is_table_row, root_of, table_of}
use Rattle.spe_model.specs.Served.{Framed, Root, Served}
use Rattle.spe_model.specs.Standing.{Stands}

-- a row of the schema, among all of these, names an open table
abbrev pub names_open : Paging → (all : List SchemaRow) → SchemaRow → Bool
names_open pages all row = is_table_row row && not (is_some (table_of (is_index_page pages) all row).closed)

-- the root that a row names, if any
abbrev pub root_in : Paging → (all : List SchemaRow) → SchemaRow → List Root
root_in pages all row =
    if root_of row.rootpage == 0 then [] else record { page = root_of row.rootpage; marked = names_open pages all row } ∷ []

-- page 1, and the roots of these rows, marked exactly where they are of open tables
abbrev pub roots_of : Paging → List SchemaRow → List Root
roots_of pages rows = record { page = 1; marked = false } ∷ flat_map (root_in pages rows) rows

-- served pages stand
abbrev pub ServedStand : Type 0
ServedStand = (count : ℕ) (pages : Paging) (db : Database) → Served count pages db → Stands count pages db

-- served pages are framed for their roots
abbrev pub ServedAreFramed : Type 0
ServedAreFramed = (count : ℕ) (pages : Paging) (db : Database) → (served : Served count pages db) → Framed count pages (roots_of pages served.stands.rows)

-- pages are served for one database at most
abbrev pub ServedForOne : Type 0
ServedForOne = (count : ℕ) (pages : Paging) (a b : Database) → Served count pages a → Served count pages b → a ≡ b
