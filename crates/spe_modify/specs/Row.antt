-- A row that is put into an open table of a served database, or gets other values there, at a bound `P: Pages`.
use Rattle.std.specs.Prelude.{◌≡◌, ℕ, ℤ, true, false, List, length, map, None, Some, if◌then◌else◌}
use Rattle.std.specs.Ordering.{int_eq}
use Rattle.spe_model.specs.declared.catalog.Entry.{Entry}
use Rattle.spe_model.specs.Database.{Database, Row}
use Rattle.spe_model.specs.Justified.{Opening}
use Rattle.spe_model.specs.Paging.{Agrees, Paging}
use Rattle.spe_model.specs.Rows.{table_named, with_row, with_rows}
use Rattle.spe_model.specs.Standing.{IsTableRow, pages_of_tree}
use Rattle.spe_space.specs.declared.pages.Pages.{Ghosts}
use Rattle.spe_space.specs.Calls.{sight}
use Rattle.spe_frame.specs.Held.{Shifts, Spares}
use Rattle.spe_served.specs.Change.{IsServed, TableAlone, entry_named}
use Rattle.spe_served.specs.Lists.{ListsStand}
use Rattle.spe_slow.specs.Answers.{is_taken}
use Rattle.spe_insert.specs.Insert.{most_pages}

-- A table: what was read at the opening, the database, and the table's name, entry and rows in it.
pub record TableOf : Type 0 where
  pub opening : Opening
  pub db : Database
  pub name : List ℕ
  pub entry : Entry
  pub rows : List Row

-- The pages are served for the database, and the table is open and has this root.
pub record IsOpen {P : Type 0} (g : Ghosts P) (s : P) (pages : Paging) (root : ℕ) (t : TableOf) : Type 0 where
  pub lists : ListsStand g
  pub served : IsServed g t.opening s pages t.db
  pub named : entry_named t.name t.opening.catalog ≡ Some t.entry
  pub free : t.entry.table.closed ≡ None
  pub root_is : t.entry.root ≡ root
  pub found : table_named t.name t.db ≡ Some (t.entry.table, t.rows)

-- whatever the pages are below the space, as long as they agree with what was given and the root is that of such a table
abbrev pub WhereOpen : {P : Type 0} (g : Ghosts P) (old new : P) (root : ℕ) → (Paging → TableOf → Type 0) → Type 0
WhereOpen g old new root What = (pages : Paging) (t : TableOf) → Agrees pages (g.seen new) → IsOpen g old pages root t → What pages t

-- No row had the rowid, and the pages are served for the database with that row which the rowid and the record stand for.
pub record GainsRow {P : Type 0} (g : Ghosts P) (new : P) (pages : Paging) (t : TableOf) (rowid : ℤ) (bytes : List ℕ) : Type 0 where
  pub absent : is_taken t.rows rowid ≡ false
  pub served : (row : Row) → IsTableRow t.entry.table (rowid, bytes) row
      → IsServed g t.opening new pages (with_rows t.name (with_row row t.rows) t.db)

-- A row has the rowid, and the pages are served for the same database.
pub record HasRowid {P : Type 0} (g : Ghosts P) (new : P) (pages : Paging) (t : TableOf) (rowid : ℤ) : Type 0 where
  pub present : is_taken t.rows rowid ≡ true
  pub served : IsServed g t.opening new pages t.db

-- the rows with another one in the place of that which has its rowid
abbrev pub with_changed : Row → List Row → List Row
with_changed row rows = map (λ (r : Row). if int_eq r.0 row.0 then row else r) rows

-- the table with other rows, in the database with them
abbrev pub table_with : TableOf → List Row → TableOf
table_with t rows = record { opening = t.opening; db = with_rows t.name rows t.db; name = t.name; entry = t.entry; rows = rows }

-- the tree of the table became another one's, the tree that the table has then, with so many allocations
abbrev pub ShiftsOwn : {P : Type 0} (g : Ghosts P) (old new : P) → Paging → (t then_ : TableOf) (allocs : ℕ) → Type 0
ShiftsOwn g old new pages t then_ allocs =
    (alone : TableAlone g t.opening old pages t.db t.name t.entry) (later : TableAlone g then_.opening new pages then_.db then_.name then_.entry)
    → Shifts g old new pages (pages_of_tree (g.used old) (sight g old pages) alone.tree) (pages_of_tree (g.used new) (sight g new pages) later.tree) allocs

-- A row had the rowid, and the pages are served for the database with that row in its place which the rowid and the record
-- stand for; the table's tree became that of the table then.
pub record ChangesRow {P : Type 0} (g : Ghosts P) (old new : P) (pages : Paging) (t : TableOf) (rowid : ℤ) (bytes : List ℕ) : Type 0 where
  pub present : is_taken t.rows rowid ≡ true
  pub served : (row : Row) → IsTableRow t.entry.table (rowid, bytes) row
      → IsServed g t.opening new pages (with_rows t.name (with_changed row t.rows) t.db)
  pub shifts : (row : Row) → ShiftsOwn g old new pages t (table_with t (with_changed row t.rows)) (most_pages (g.used old) (length bytes))

-- No row has the rowid, and the pages are served for the same database, the table's tree being as it was.
pub record LacksRowid {P : Type 0} (g : Ghosts P) (old new : P) (pages : Paging) (t : TableOf) (rowid : ℤ) : Type 0 where
  pub absent : is_taken t.rows rowid ≡ false
  pub served : IsServed g t.opening new pages t.db
  pub shifts : ShiftsOwn g old new pages t t 0

-- whatever is in use apart from the table's own tree and its chains stays, for a record of so many bytes
abbrev pub SparesOthers : {P : Type 0} (g : Ghosts P) (old new : P) → Paging → TableOf → (size : ℕ) → Type 0
SparesOthers g old new pages t size = (alone : TableAlone g t.opening old pages t.db t.name t.entry)
    → Spares g old new pages (pages_of_tree (g.used old) (sight g old pages) alone.tree) (most_pages (g.used old) size)
