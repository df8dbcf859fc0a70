-- The pages that a statement that reads asks for and that are none of the space's.
use Rattle.std.specs.Prelude.{◌≡◌, ◌⊎◌, ℕ, ◌<◌, List, Some, Result, IfErr, false, is_some}
use Rattle.std.specs.List.{Contains}
use Rattle.spe_model.specs.declared.catalog.Entry.{Entry}
use Rattle.spe_model.specs.declared.statement.Cond.{Cond}
use Rattle.spe_model.specs.declared.statement.Statement.{Statement}
use Rattle.spe_model.specs.Database.{Database, Row}
use Rattle.spe_model.specs.Paging.{Paging, Agrees}
use Rattle.spe_model.specs.Statement.{table_name, conds_of}
use Rattle.spe_model.specs.Tree.{rank, IsTableTree}
use Rattle.spe_space.specs.Calls.{sight}
use Rattle.spe_space.specs.Found.{OnMissing}
use Rattle.spe_space.specs.Outcome.{IsInside}
use Rattle.spe_space.specs.declared.pages.Pages.{Ghosts}
use Rattle.spe_space.specs.declared.fault.TreeFault.{TreeFault}
use Rattle.spe_search.specs.Range.{touched_pages, IsOverflowBetween}
use Rattle.spe_exec.specs.declared.bounds.Span.{Span}
use Rattle.spe_exec.specs.Bounds.{Bounds}
use Rattle.spe_exec.specs.Finding.{entry_named}
use Rattle.spe_exec.specs.Run.{AreRowsOf, HoldsRows, StandsWith}

-- a page of a table's tree that the rowids touch that meet the conditions, or of the chain of such a row, and then never
-- page 0
pub record IsAskedFor (usable : ℕ) (pages : Paging) (root : ℕ) (conds : List Cond) (at : ℕ) : Type 0 where
  pub span : Span
  pub bounds : Bounds conds (Some span)
  pub height : ℕ
  pub tree : IsTableTree usable pages height root
  pub page : Contains (touched_pages usable pages (rank span.low) (rank span.high) height root) at
      ⊎ ((0 < at) × IsOverflowBetween usable pages (rank span.low) (rank span.high) height root at)

-- a page that is asked for and is none of the space's is such a one
abbrev pub AsksFor : {P X : Type 0} (g : Ghosts P) (early : P) (root : ℕ) (conds : List Cond) → Result X TreeFault → Paging → Type 0
AsksFor g early root conds result pages = IfErr result (OnMissing (IsAskedFor (g.used early) (sight g early pages) root conds))

abbrev pub MissesChosen : {P X : Type 0} (g : Ghosts P) (early late : P) (root : ℕ) (conds : List Cond) (result : Result X TreeFault) → Type 0
MissesChosen g early late root conds result =
    (pages : Paging) → Agrees pages (g.seen late) → (height : ℕ) → IsTableTree (g.used early) (sight g early pages) height root → AsksFor g early root conds result pages

abbrev pub MissesOfRows : {P X : Type 0} (g : Ghosts P) (early late : P) (entry : Entry) (conds : List Cond) (result : Result X TreeFault) → Type 0
MissesOfRows g early late entry conds result =
    (pages : Paging) → Agrees pages (g.seen late) → (rows : List Row) → AreRowsOf (g.used early) (sight g early pages) entry rows → AsksFor g early entry.root conds result pages

-- a page of the tree of an open table
abbrev pub IsAskedOpen : (usable : ℕ) (pages : Paging) (entry : Entry) (conds : List Cond) (at : ℕ) → Type 0
IsAskedOpen usable pages entry conds at = (is_some entry.table.closed ≡ false) × IsAskedFor usable pages entry.root conds at

abbrev pub MissesOfTable : {P X : Type 0} (g : Ghosts P) (early late : P) (entry : Entry) (conds : List Cond) (result : Result X TreeFault) → Type 0
MissesOfTable g early late entry conds result =
    (pages : Paging) → Agrees pages (g.seen late) → (rows : List Row) → HoldsRows (g.used early) (sight g early pages) entry rows
    → IfErr result (OnMissing (IsAskedOpen (g.used early) (sight g early pages) entry conds))

-- a page of the tree of the open table that a statement names
pub record IsAskedOf (usable : ℕ) (pages : Paging) (catalog : List Entry) (s : Statement) (at : ℕ) : Type 0 where
  pub entry : Entry
  pub named : entry_named (table_name s) catalog ≡ Some entry
  pub is_open : is_some entry.table.closed ≡ false
  pub page : IsAskedFor usable pages entry.root (conds_of s) at

-- where the pages stand for a database, a page that is asked for and is none of the space's is one that the statement's
-- conditions touch in the tree of its table, or of the chain of a row there
abbrev pub MissesOfStatement : {P X : Type 0} (g : Ghosts P) (early late : P) (catalog : List Entry) (s : Statement) (result : Result X TreeFault) → Type 0
MissesOfStatement g early late catalog s result =
    (pages : Paging) → Agrees pages (g.seen late) → (count : ℕ) (db : Database) → StandsWith (g.used early) count (sight g early pages) catalog db
    → IfErr result (OnMissing (IsAskedOf (g.used early) (sight g early pages) catalog s))

-- there it is one of the pages that stand
abbrev pub MissesStatement : {P X : Type 0} (g : Ghosts P) (early late : P) (catalog : List Entry) (result : Result X TreeFault) → Type 0
MissesStatement g early late catalog result =
    (pages : Paging) → Agrees pages (g.seen late) → (count : ℕ) (db : Database) → StandsWith (g.used early) count (sight g early pages) catalog db
    → IfErr result (OnMissing (IsInside count))
