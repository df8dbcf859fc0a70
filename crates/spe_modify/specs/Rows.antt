-- Several rows of an open table of a served database that get other values, at a bound `P: Pages`.
use Rattle.std.specs.Prelude.{◌≡◌, ℕ, ℤ, ◌+◌, ◌≤◌, List, [], ◌∷◌, ◌++◌, length, map, All, None}
use Rattle.spe_model.specs.Database.{Row}
use Rattle.spe_model.specs.Paging.{Agrees, Paging}
use Rattle.spe_model.specs.Rows.{with_rows}
use Rattle.spe_model.specs.Standing.{AreTableRows, pages_of_tree}
use Rattle.spe_space.specs.declared.pages.Pages.{Ghosts}
use Rattle.spe_space.specs.Calls.{Keeps, sight}
use Rattle.spe_frame.specs.Held.{Spares}
use Rattle.spe_served.specs.Change.{IsServed, TableAlone}
use Rattle.spe_insert.specs.Insert.{most_pages}
use Rattle.spe_modify.specs.declared.rows.StoredRow.{StoredRow}
use Rattle.spe_modify.specs.Row.{IsOpen, ShiftsOwn, TableOf, table_with, with_changed}

-- its rowid and its record
abbrev pub stored_of : StoredRow → ℤ × List ℕ
stored_of r = (r.rowid, r.record)

-- a record that a cell can have
abbrev pub IsShort : StoredRow → Type 0
IsShort r = length r.record ≤ 2147483647

-- the rows with others in the places of those that have their rowids, one after the other
abbrev pub with_all : List Row → List Row → List Row
with_all [] rows = rows
with_all (n ∷ new) rows = with_all new (with_changed n rows)

-- how many pages may be handed out for such records
abbrev pub pages_of_rows : (usable : ℕ) → List StoredRow → ℕ
pages_of_rows usable [] = 0
pages_of_rows usable (r ∷ rs) = most_pages usable (length r.record) + pages_of_rows usable rs

-- the pages are served for the database with a row in the place of that with its rowid, and the table's tree became that of
-- the table then
pub record Turns {P : Type 0} (g : Ghosts P) (old new : P) (pages : Paging) (t : TableOf) (row : Row) (allocs : ℕ) : Type 0 where
  pub served : IsServed g t.opening new pages (with_rows t.name (with_changed row t.rows) t.db)
  pub shifts : ShiftsOwn g old new pages t (table_with t (with_changed row t.rows)) allocs

-- the pages are served for the database with all these rows in their places
abbrev pub ChangesRows : {P : Type 0} (g : Ghosts P) (new : P) → Paging → TableOf → List Row → Type 0
ChangesRows g new pages t rows = IsServed g t.opening new pages (with_rows t.name (with_all rows t.rows) t.db)

-- whatever is in use apart from the table's own tree and its chains stays, and so many pages are handed out at most
abbrev pub SparesRows : {P : Type 0} (g : Ghosts P) (old new : P) → Paging → TableOf → (allocs : ℕ) → Type 0
SparesRows g old new pages t allocs = (alone : TableAlone g t.opening old pages t.db t.name t.entry)
    → Spares g old new pages (pages_of_tree (g.used old) (sight g old pages) alone.tree) allocs

-- in the loop: some of the rows are changed, and these are left
pub record IsPart {P : Type 0} (g : Ghosts P) (old now : P) (pages : Paging) (root : ℕ) (t : TableOf) (all left : List StoredRow) (rows : List Row) : Type 0 where
  pub front : List Row
  pub others : List Row
  pub split : rows ≡ front ++ others
  pub are : AreTableRows t.entry.table (map stored_of left) others
  pub count : ℕ
  pub counted : count + pages_of_rows (g.used old) left ≡ pages_of_rows (g.used old) all
  pub is : IsOpen g now pages root (table_with t (with_all front t.rows))
  pub shifts : ShiftsOwn g old now pages t (table_with t (with_all front t.rows)) count

pub record IsChanging {P : Type 0} (g : Ghosts P) (old now : P) (root : ℕ) (all left : List StoredRow) : Type 0 where
  pub kept : Keeps g old now
  pub refusal : g.refusal now ≡ None
  pub short : All IsShort left
  pub part : (pages : Paging) (t : TableOf) → Agrees pages (g.seen now) → IsOpen g old pages root t → (rows : List Row) → AreTableRows t.entry.table (map stored_of all) rows
      → IsPart g old now pages root t all left rows
