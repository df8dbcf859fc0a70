-- The pages that a statement that reads gets.
use Rattle.std.proofs.Common.{◌≡◌, ◌⊎◌, inl, inr, ℕ, ℤ, Bool, List, Option, Some, None, refl, sym, subst}
use Rattle.spe_model.specs.declared.catalog.Entry.{Entry}
use Rattle.spe_model.specs.declared.statement.Cond.{Cond}
use Rattle.spe_model.specs.declared.statement.Statement.{Statement}
use Rattle.spe_model.specs.declared.statement.Statement.TheVariants as statements
use Rattle.spe_model.specs.Database.{Database}
use Rattle.spe_model.specs.Paging.{Paging, Agrees}
use Rattle.spe_model.specs.Rows.{table_named}
use Rattle.spe_model.specs.Statement.{table_name, conds_of}
use Rattle.spe_model.specs.Tree.{rank}
use Rattle.spe_space.specs.Calls.{sight}
use Rattle.spe_space.specs.declared.pages.Pages.{Ghosts}
use Rattle.spe_search.specs.Range.{AddsOfRange}
use Rattle.spe_slow.specs.Refused.{rowless_refusal}
use Rattle.spe_exec.specs.declared.bounds.Span.{Span}
use Rattle.spe_exec.specs.Bounds.{Bounds}
use Rattle.spe_exec.specs.Finding.{entry_named}
use Rattle.spe_exec.specs.Run.{AreRowsOf, StandsWith}
use Rattle.spe_exec.specs.Adds.{AddsChosen, AddsOfRows, AddsOfTable, IsPageOf}
use Rattle.spe_exec.proofs.TableLemmas.{FindsTable, table_found}
use Rattle.spe_exec.proofs.ReadsLemmas.{open_if}

pub adds_range : {P : Type 0} (g : Ghosts P) (early late : P) (root : ℕ) (conds : List Cond) (o : Option Span) (span : Span) (low high : ℤ) → o ≡ Some span → Bounds conds o → low ≡ span.low → high ≡ span.high
    → AddsOfRange g early late root (rank low) (rank high) → AddsChosen g early late root conds
adds_range {P} g early late root conds o span low high e bounds l h adds pages agrees height tree n =
    let b : Bounds conds (Some span) = subst (λ (s : Option Span). Bounds conds s) e bounds in
    let a : AddsOfRange g early late root (rank span.low) (rank span.high) = rw (← l, ← h) adds in
    elim (a pages agrees height 0 18446744073709551616 tree.1 n) [
      | inl same ↦ inl same
      | inr page ↦ inr (record { span = span; bounds = b; height = height; tree = tree; page = page })
    ]

pub adds_rows : {P : Type 0} (g : Ghosts P) (early late : P) (entry : Entry) (conds : List Cond) → AddsChosen g early late entry.root conds → AddsOfRows g early late entry conds
adds_rows g early late entry conds adds pages agrees rows of = adds pages agrees of.height of.tree

pub adds_conds : {P : Type 0} (g : Ghosts P) (early late : P) (entry : Entry) (conds others : List Cond) → conds ≡ others → AddsOfRows g early late entry conds → AddsOfRows g early late entry others
adds_conds g early late entry conds others e adds = subst (λ (cs : List Cond). AddsOfRows g early late entry cs) e adds

pub select_conds : (s : Statement) (name : List ℕ) (all : Bool) (columns : List (List ℕ)) (conds some : List Cond) → s ≡ statements.Select name all columns conds → some ≡ conds → some ≡ conds_of s
select_conds s name all columns conds some e f = rw (e, f) refl

pub count_conds : (s : Statement) (name : List ℕ) (conds some : List Cond) → s ≡ statements.Count name conds → some ≡ conds → some ≡ conds_of s
count_conds s name conds some e f = rw (e, f) refl

pub adds_table : {P : Type 0} (g : Ghosts P) (early late : P) (entry : Entry) (s : Statement) → rowless_refusal entry.table s ≡ None → AddsOfRows g early late entry (conds_of s)
    → AddsOfTable g early late entry (conds_of s)
adds_table g early late entry s none adds pages agrees rows holds =
    let of : AreRowsOf (g.used early) (sight g early pages) entry rows = rw (open_if entry.table s none) at holds in
    adds pages agrees rows of

pub adds_statement : {P : Type 0} (g : Ghosts P) (early late : P) (catalog : List Entry) (s : Statement) (name : List ℕ) (entry : Entry) → name ≡ table_name s → Some entry ≡ entry_named name catalog
    → AddsOfTable g early late entry (conds_of s) → (pages : Paging) → Agrees pages (g.seen late) → (count : ℕ) (db : Database) → StandsWith (g.used early) count (sight g early pages) catalog db
    → (n : ℕ) → (g.seen late n ≡ g.seen early n) ⊎ IsPageOf (g.used early) (sight g early pages) catalog s n
adds_statement g early late catalog s name entry m f adds pages agrees count db stands n =
    let e : entry_named (table_name s) catalog ≡ Some entry = rw (← m) (sym f) in
    let found : FindsTable (g.used early) (sight g early pages) (Some entry) (table_named (table_name s) db) =
    subst (λ (o : Option Entry). FindsTable (g.used early) (sight g early pages) o (table_named (table_name s) db)) e
    (table_found (g.used early) count (sight g early pages) catalog db (table_name s) stands) in
    elim (adds pages agrees found.0 found.2 n) [
      | inl same ↦ inl same
      | inr page ↦ inr (record { entry = entry; named = e; page = page })
    ]
