-- Rows that are taken out of an open table of a served database, at a bound `P: Pages`.
use Rattle.std.specs.Prelude.{◌≡◌, ℕ, ℤ, true, not, List, filter, None}
use Rattle.std.specs.List.{list_any}
use Rattle.std.specs.Ordering.{int_eq}
use Rattle.spe_model.specs.Database.{Row}
use Rattle.spe_model.specs.Paging.{Agrees, Paging}
use Rattle.spe_model.specs.Rows.{with_rows}
use Rattle.spe_space.specs.declared.pages.Pages.{Ghosts}
use Rattle.spe_space.specs.Calls.{Keeps}
use Rattle.spe_served.specs.Change.{IsServed}
use Rattle.spe_slow.specs.Answers.{is_taken}
use Rattle.spe_modify.specs.Row.{IsOpen, ShiftsOwn, TableOf, table_with}

-- the rows with other rowids
abbrev pub without : ℤ → List Row → List Row
without rowid rows = filter (λ (r : Row). not (int_eq r.0 rowid)) rows

-- the rows whose rowids are none of some
abbrev pub without_all : List ℤ → List Row → List Row
without_all rowids rows = filter (λ (r : Row). not (list_any (λ (k : ℤ). int_eq r.0 k) rowids)) rows

-- The pages are served for the database without the row of a rowid, and the table's tree became that of the table then.
pub record Goes {P : Type 0} (g : Ghosts P) (old new : P) (pages : Paging) (t : TableOf) (rowid : ℤ) : Type 0 where
  pub served : IsServed g t.opening new pages (with_rows t.name (without rowid t.rows) t.db)
  pub shifts : ShiftsOwn g old new pages t (table_with t (without rowid t.rows)) 0

-- A row had the rowid, and it is gone.
pub record RemovesRow {P : Type 0} (g : Ghosts P) (old new : P) (pages : Paging) (t : TableOf) (rowid : ℤ) : Type 0 where
  pub present : is_taken t.rows rowid ≡ true
  pub gone : Goes g old new pages t rowid

-- the pages are served for the database without the rows of these rowids
abbrev pub RemovesRows : {P : Type 0} (g : Ghosts P) (new : P) → Paging → TableOf → (rowids : List ℤ) → Type 0
RemovesRows g new pages t rowids = IsServed g t.opening new pages (with_rows t.name (without_all rowids t.rows) t.db)

-- in the loop: these rows are left in the table, and with those gone that are still to go, all are
pub record IsPartGone {P : Type 0} (g : Ghosts P) (old now : P) (pages : Paging) (root : ℕ) (t : TableOf) (all left : List ℤ) : Type 0 where
  pub rows : List Row
  pub rest : without_all left rows ≡ without_all all t.rows
  pub is : IsOpen g now pages root (table_with t rows)
  pub shifts : ShiftsOwn g old now pages t (table_with t rows) 0

pub record IsRemoving {P : Type 0} (g : Ghosts P) (old now : P) (root : ℕ) (all left : List ℤ) : Type 0 where
  pub kept : Keeps g old now
  pub refusal : g.refusal now ≡ None
  pub part : (pages : Paging) (t : TableOf) → Agrees pages (g.seen now) → IsOpen g old pages root t → IsPartGone g old now pages root t all left
