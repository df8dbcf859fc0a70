-- A table of served pages, and what becomes of the database where its tree gets other rows.
use Rattle.std.specs.Prelude.{◌≡◌, ℕ, true, List, Option, Some, None, find}
use Rattle.spe_model.specs.declared.catalog.Entry.{Entry}
use Rattle.spe_model.specs.Agree.{agree}
use Rattle.spe_model.specs.Database.{Database, Row}
use Rattle.spe_model.specs.Justified.{Opening, ServedSince}
use Rattle.spe_model.specs.Paging.{Paging}
use Rattle.spe_model.specs.Rows.{table_named, with_rows}
use Rattle.spe_model.specs.Served.{IsGrown, Root}
use Rattle.spe_model.specs.Standing.{AreTableRows, Tree, pages_of_tree}
use Rattle.spe_model.specs.Tree.{tree_rows}
use Rattle.spe_space.specs.declared.pages.Pages.{Ghosts}
use Rattle.spe_space.specs.Calls.{sight}
use Rattle.spe_space.specs.Front.{number_in}
use Rattle.spe_frame.specs.Held.{AreHeld, IsReady, Shifts}
use Rattle.spe_frame.specs.Times.{Lacks}

-- Pages as a space shows them are served for a database, have what was read at the opening, and are ready for calls that
-- write.
pub record IsServed {P : Type 0} (g : Ghosts P) (opening : Opening) (s : P) (pages : Paging) (db : Database) : Type 0 where
  pub since : ServedSince opening (number_in (sight g s pages)) (sight g s pages) db
  pub size : since.served.header.page_size ≡ g.size s
  pub used : opening.usable ≡ g.used s
  pub ready : IsReady g s pages

-- the first table of a name
abbrev pub entry_named : List ℕ → List Entry → Option Entry
entry_named name entries = find (λ (e : Entry). agree e.table.name name) entries

abbrev pub root_of_table : Entry → Root
root_of_table entry = record { page = entry.root; marked = true }

-- a tree of a table with these rows
pub record HasRows {P : Type 0} (g : Ghosts P) (s : P) (pages : Paging) (entry : Entry) (tree : Tree) (rows : List Row) : Type 0 where
  pub sort : tree.table ≡ true
  pub grown : IsGrown (g.used s) (sight g s pages) (root_of_table entry) tree
  pub rows_are : AreTableRows entry.table (tree_rows (g.used s) (sight g s pages) tree.height tree.root) rows

-- An open table: its tree is held apart from all else, page 1 among that, and has the rows that the database has. Where the
-- tree is shifted into one with other rows, the pages are served for the database with these.
pub record TableAlone {P : Type 0} (g : Ghosts P) (opening : Opening) (s : P) (pages : Paging) (db : Database) (name : List ℕ) (entry : Entry) : Type 0 where
  pub tree : Tree
  pub rows : List Row
  pub has : HasRows g s pages entry tree rows
  pub named : table_named name db ≡ Some (entry.table, rows)
  pub held : AreHeld g s pages (pages_of_tree (g.used s) (sight g s pages) tree)
  pub later : Lacks (pages_of_tree (g.used s) (sight g s pages) tree) 1
  pub again : (new : P) (other : Tree) (allocs : ℕ) (others : List Row)
      → Shifts g s new pages (pages_of_tree (g.used s) (sight g s pages) tree) (pages_of_tree (g.used new) (sight g new pages) other) allocs
      → HasRows g new pages entry other others → IsServed g opening new pages (with_rows name others db)

-- so it is of each open table of a served database
abbrev pub ChangesTable : {P : Type 0} (g : Ghosts P) → Type 0
ChangesTable {P = P} g = (opening : Opening) (s : P) (pages : Paging) (db : Database) (name : List ℕ) (entry : Entry)
    → IsServed g opening s pages db → entry_named name opening.catalog ≡ Some entry → entry.table.closed ≡ None → TableAlone g opening s pages db name entry

-- a root has one tree
abbrev pub RootHasOne : Type 0
RootHasOne = (usable : ℕ) (pages : Paging) (root : Root) (a b : Tree) → IsGrown usable pages root a → IsGrown usable pages root b → a ≡ b
