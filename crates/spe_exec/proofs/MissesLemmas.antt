-- The pages that a statement that reads asks for and that are none of the space's.
use Rattle.std.proofs.Common.{◌≡◌, ◌⊎◌, ℕ, ℤ, ◌<◌, List, Option, Some, None, Result, IfErr, sym, subst}
use Rattle.spe_model.specs.declared.catalog.Entry.{Entry}
use Rattle.spe_model.specs.declared.statement.Cond.{Cond}
use Rattle.spe_model.specs.declared.statement.Statement.{Statement}
use Rattle.spe_model.specs.Database.{Database}
use Rattle.spe_model.specs.Paging.{Paging, Agrees}
use Rattle.spe_model.specs.Rows.{table_named}
use Rattle.spe_model.specs.Statement.{table_name, conds_of}
use Rattle.spe_model.specs.Tree.{rank}
use Rattle.spe_space.specs.Calls.{sight}
use Rattle.spe_space.specs.Found.{OnMissing, misses_weaker}
use Rattle.spe_space.specs.declared.pages.Pages.{Ghosts}
use Rattle.spe_space.specs.declared.fault.TreeFault.{TreeFault}
use Rattle.spe_search.specs.Range.{MissesInRange, touched_pages, IsOverflowBetween}
use Rattle.std.specs.List.{Contains}
use Rattle.spe_slow.specs.Refused.{rowless_refusal}
use Rattle.spe_exec.specs.declared.bounds.Span.{Span}
use Rattle.spe_exec.specs.Bounds.{Bounds}
use Rattle.spe_exec.specs.Finding.{entry_named}
use Rattle.spe_exec.specs.Run.{AreRowsOf, StandsWith}
use Rattle.spe_exec.specs.Misses.{IsAskedFor, IsAskedOpen, MissesChosen, MissesOfRows, MissesOfTable, IsAskedOf}
use Rattle.spe_exec.proofs.TableLemmas.{FindsTable, table_found}
use Rattle.spe_exec.proofs.ReadsLemmas.{open_if}

pub misses_range : {P X : Type 0} (g : Ghosts P) (early late : P) (root : ℕ) (conds : List Cond) (result : Result X TreeFault) (o : Option Span) (span : Span) (low high : ℤ) → o ≡ Some span
    → Bounds conds o → low ≡ span.low → high ≡ span.high → MissesInRange g early late root (rank low) (rank high) result → MissesChosen g early late root conds result
misses_range g early late root conds result o span low high e bounds l h misses pages agrees height tree =
    let b : Bounds conds (Some span) = subst (λ (s : Option Span). Bounds conds s) e bounds in
    let m : MissesInRange g early late root (rank span.low) (rank span.high) result = rw (← l, ← h) misses in
    misses_weaker (λ at. Contains (touched_pages (g.used early) (sight g early pages) (rank span.low) (rank span.high) height root) at
    ⊎ ((0 < at) × IsOverflowBetween (g.used early) (sight g early pages) (rank span.low) (rank span.high) height root at))
    (IsAskedFor (g.used early) (sight g early pages) root conds) result
    (λ n page. record { span = span; bounds = b; height = height; tree = tree; page = page }) (m pages agrees height 0 18446744073709551616 tree.1)

pub misses_conds : {P X : Type 0} (g : Ghosts P) (early late : P) (entry : Entry) (conds others : List Cond) (result : Result X TreeFault) → conds ≡ others
    → MissesOfRows g early late entry conds result → MissesOfRows g early late entry others result
misses_conds g early late entry conds others result e misses = subst (λ (cs : List Cond). MissesOfRows g early late entry cs result) e misses

pub misses_table : {P X : Type 0} (g : Ghosts P) (early late : P) (entry : Entry) (s : Statement) (result : Result X TreeFault) → rowless_refusal entry.table s ≡ None
    → MissesOfRows g early late entry (conds_of s) result → MissesOfTable g early late entry (conds_of s) result
misses_table g early late entry s result none misses pages agrees rows holds =
    let of : AreRowsOf (g.used early) (sight g early pages) entry rows = rw (open_if entry.table s none) at holds in
    misses_weaker (IsAskedFor (g.used early) (sight g early pages) entry.root (conds_of s)) (IsAskedOpen (g.used early) (sight g early pages) entry (conds_of s)) result
    (λ n page. (open_if entry.table s none, page)) (misses pages agrees rows of)

pub misses_statement : {P X : Type 0} (g : Ghosts P) (early late : P) (catalog : List Entry) (s : Statement) (name : List ℕ) (entry : Entry) (result : Result X TreeFault) → name ≡ table_name s
    → Some entry ≡ entry_named name catalog → MissesOfTable g early late entry (conds_of s) result
    → (pages : Paging) → Agrees pages (g.seen late) → (count : ℕ) (db : Database) → StandsWith (g.used early) count (sight g early pages) catalog db
    → IfErr result (OnMissing (IsAskedOf (g.used early) (sight g early pages) catalog s))
misses_statement g early late catalog s name entry result m f misses pages agrees count db stands =
    let e : entry_named (table_name s) catalog ≡ Some entry = rw (← m) (sym f) in
    let found : FindsTable (g.used early) (sight g early pages) (Some entry) (table_named (table_name s) db) =
    subst (λ (o : Option Entry). FindsTable (g.used early) (sight g early pages) o (table_named (table_name s) db)) e
    (table_found (g.used early) count (sight g early pages) catalog db (table_name s) stands) in
    misses_weaker (IsAskedOpen (g.used early) (sight g early pages) entry (conds_of s)) (IsAskedOf (g.used early) (sight g early pages) catalog s) result
    (λ n page. record { entry = entry; named = e; is_open = page.0; page = page.1 }) (misses pages agrees found.0 found.2)
