-- The pages that a statement that reads gets.
use Rattle.std.specs.Prelude.{◌≡◌, ◌⊎◌, ℕ, List, Some}
use Rattle.std.specs.List.{Contains}
use Rattle.spe_model.specs.declared.catalog.Entry.{Entry}
use Rattle.spe_model.specs.declared.statement.Cond.{Cond}
use Rattle.spe_model.specs.declared.statement.Statement.{Statement}
use Rattle.spe_model.specs.Database.{Database, Row}
use Rattle.spe_model.specs.Paging.{Paging, Agrees}
use Rattle.spe_model.specs.Statement.{table_name, conds_of}
use Rattle.spe_model.specs.Tree.{rank, IsTableTree}
use Rattle.spe_space.specs.Calls.{sight}
use Rattle.spe_space.specs.declared.pages.Pages.{Ghosts}
use Rattle.spe_search.specs.Range.{touched_pages, IsOverflowBetween}
use Rattle.spe_exec.specs.declared.bounds.Span.{Span}
use Rattle.spe_exec.specs.Bounds.{Bounds}
use Rattle.spe_exec.specs.Finding.{entry_named}
use Rattle.spe_exec.specs.Run.{AreRowsOf, HoldsRows, StandsWith}

-- a page of a table's tree that the rowids touch that meet the conditions, or of the chain of such a row
pub record IsPageFor (usable : ℕ) (pages : Paging) (root : ℕ) (conds : List Cond) (n : ℕ) : Type 0 where
  pub span : Span
  pub bounds : Bounds conds (Some span)
  pub height : ℕ
  pub tree : IsTableTree usable pages height root
  pub page : Contains (touched_pages usable pages (rank span.low) (rank span.high) height root) n
      ⊎ IsOverflowBetween usable pages (rank span.low) (rank span.high) height root n

-- each page that is given for the first time is such a one
abbrev pub IsNewFor : {P : Type 0} (g : Ghosts P) (early late : P) (root : ℕ) (conds : List Cond) → Paging → Type 0
IsNewFor g early late root conds pages = (n : ℕ) → (g.seen late n ≡ g.seen early n) ⊎ IsPageFor (g.used early) (sight g early pages) root conds n

abbrev pub AddsChosen : {P : Type 0} (g : Ghosts P) (early late : P) (root : ℕ) (conds : List Cond) → Type 0
AddsChosen g early late root conds =
    (pages : Paging) → Agrees pages (g.seen late) → (height : ℕ) → IsTableTree (g.used early) (sight g early pages) height root → IsNewFor g early late root conds pages

abbrev pub AddsOfRows : {P : Type 0} (g : Ghosts P) (early late : P) (entry : Entry) (conds : List Cond) → Type 0
AddsOfRows g early late entry conds =
    (pages : Paging) → Agrees pages (g.seen late) → (rows : List Row) → AreRowsOf (g.used early) (sight g early pages) entry rows → IsNewFor g early late entry.root conds pages

abbrev pub AddsOfTable : {P : Type 0} (g : Ghosts P) (early late : P) (entry : Entry) (conds : List Cond) → Type 0
AddsOfTable g early late entry conds =
    (pages : Paging) → Agrees pages (g.seen late) → (rows : List Row) → HoldsRows (g.used early) (sight g early pages) entry rows → IsNewFor g early late entry.root conds pages

-- a page of the tree of the table that a statement names
pub record IsPageOf (usable : ℕ) (pages : Paging) (catalog : List Entry) (s : Statement) (n : ℕ) : Type 0 where
  pub entry : Entry
  pub named : entry_named (table_name s) catalog ≡ Some entry
  pub page : IsPageFor usable pages entry.root (conds_of s) n

-- where the pages stand for a database, each page that is given for the first time is one that the statement's conditions
-- touch in the tree of its table, or of the chain of a row there
abbrev pub AddsOfStatement : {P : Type 0} (g : Ghosts P) (early late : P) (catalog : List Entry) (s : Statement) → Type 0
AddsOfStatement g early late catalog s =
    (pages : Paging) → Agrees pages (g.seen late) → (count : ℕ) (db : Database) → StandsWith (g.used early) count (sight g early pages) catalog db
    → (n : ℕ) → (g.seen late n ≡ g.seen early n) ⊎ IsPageOf (g.used early) (sight g early pages) catalog s n
