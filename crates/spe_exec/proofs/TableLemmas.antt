-- The table that a name has in a database and in the catalog of the pages that stand for it.
use Rattle.std.proofs.Common.{◌≡◌, ◌≢◌, ℕ, ◌<◌, Bool, true, false, not, ◌&&◌, ◌==◌, List, [], ◌∷◌, map, filter, Option, Some, None, is_some, refl, sym, ◌∙◌, arith, subst}
use Rattle.std.specs.List.{find}
use Rattle.std.proofs.lemmas.Bool.{false≢true}
use Rattle.spe_model.specs.declared.catalog.Entry.{Entry}
use Rattle.spe_model.specs.declared.table.TableDef.{TableDef}
use Rattle.spe_model.specs.declared.table.Closed.{Closed}
use Rattle.spe_model.specs.declared.table.Closed.TheVariants.{Reserved, Definition}
use Rattle.spe_model.specs.Agree.{agree}
use Rattle.spe_model.specs.Database.{Database, Table, Other, Row}
use Rattle.spe_model.specs.Paging.{Paging}
use Rattle.spe_model.specs.Rows.{table_named}
use Rattle.spe_model.specs.Schema.{SchemaRow, is_table_row, is_index_page, is_closed_by, is_declared, declaration_in, is_rooted, reasons, root_of, table_of, entry_of}
use Rattle.spe_model.specs.Standing.{Whether, Tree, HasTree, AreEntries, AreTableRows, stored_rows}
use Rattle.spe_model.specs.Tree.{IsTree, tree_rows}
use Rattle.spe_exec.specs.Finding.{entry_named}
use Rattle.spe_exec.specs.Run.{AreRowsOf, HoldsRows, StandsWith}

-- what the catalog's table of a name says of the database's
abbrev pub FindsTable : (usable : ℕ) (pages : Paging) → Option Entry → Option (TableDef × List Row) → Type 0
FindsTable usable pages None named = named ≡ None
FindsTable usable pages (Some entry) named = (rows : List Row) × (named ≡ Some (entry.table, rows)) × HoldsRows usable pages entry rows

pub and_both : (a b : Bool) → (a && b) ≡ true → (a ≡ true) × (b ≡ true)
and_both true b h = (refl, h)
and_both false b h = absurd (false≢true h)

not_false : (b : Bool) → not b ≡ false → b ≡ true
not_false true h = refl
not_false false h = absurd (false≢true (sym h))

-- an open table is closed for no reason
pub no_reason : (test : Closed → Bool) → is_some (find test reasons) ≡ false → test Definition ≡ false
no_reason test h = go (test Reserved) (test Definition) refl refl h
  where
    go : (a b : Bool) → test Reserved ≡ a → test Definition ≡ b → is_some (find test reasons) ≡ false → test Definition ≡ false
    go a false e f h = f
    go true true e f h = absurd (false≢true (sym (rw e at h)))
    go false true e f h = absurd (false≢true (sym (rw (e, f) at h)))

pub rooted_if : (f : ℕ → Bool) (all : List SchemaRow) (row : SchemaRow) → is_closed_by f all row Definition ≡ false → is_rooted f row.rootpage ≡ true
unfolding is_closed_by
rooted_if f all row h = (and_both (is_declared (declaration_in row)) (is_rooted f row.rootpage) (not_false _ h)).1

pub not_root : (n : ℕ) → not (n == 0) ≡ true → n ≢ 0
not_root n h e = absurd (grind arith)

-- the rows of a table that is open
open_rows : (usable : ℕ) (pages : Paging) (all : List SchemaRow) (row : SchemaRow) (grown : Option Tree) (rows : List Row) → HasTree usable pages (root_of row.rootpage) grown
    → is_rooted (is_index_page pages) row.rootpage ≡ true → AreTableRows (table_of (is_index_page pages) all row) (stored_rows usable pages grown) rows
    → AreRowsOf usable pages (entry_of (is_index_page pages) all row) rows
open_rows usable pages all row None rows tree rooted are =
    absurd (not_root (root_of row.rootpage) (and_both (not (root_of row.rootpage == 0)) (not (is_index_page pages (root_of row.rootpage))) rooted).0 tree)
open_rows usable pages all row (Some t) rows tree rooted are =
    let table : t.table ≡ true = tree.2 ∙ (and_both (not (root_of row.rootpage == 0)) (not (is_index_page pages (root_of row.rootpage))) rooted).1 in
    let grown = rw table at tree.3 in
    let here = rw table at are in
    record {
      height = t.height;
      tree = subst (λ (n : ℕ). (t.height < 20) × IsTree usable pages t.height 0 18446744073709551616 n) tree.1 grown;
      rows_are = subst (λ (n : ℕ). AreTableRows (table_of (is_index_page pages) all row) (tree_rows usable pages t.height n) rows) tree.1 here;
    }

held : (usable : ℕ) (pages : Paging) (all : List SchemaRow) (row : SchemaRow) (grown : Option Tree) (rows : List Row) → HasTree usable pages (root_of row.rootpage) grown
    → (closed : Bool) → is_some (table_of (is_index_page pages) all row).closed ≡ closed
    → Whether closed (rows ≡ []) (AreTableRows (table_of (is_index_page pages) all row) (stored_rows usable pages grown) rows)
    → Whether closed (rows ≡ []) (AreRowsOf usable pages (entry_of (is_index_page pages) all row) rows)
held usable pages all row grown rows tree true e are = are
held usable pages all row grown rows tree false e are =
    open_rows usable pages all row grown rows tree
    (rooted_if (is_index_page pages) all row (no_reason (is_closed_by (is_index_page pages) all row) e)) are

abbrev pub part_of : (pages : Paging) (all rows : List SchemaRow) → List Entry
part_of pages all rows = map (entry_of (is_index_page pages) all) (filter is_table_row rows)

entries_find : (usable : ℕ) (pages : Paging) (all : List SchemaRow) (name : List ℕ) (rows : List SchemaRow) (trees : List (Option Tree)) (db : Database)
    → AreEntries usable pages all rows trees db → FindsTable usable pages (entry_named name (part_of pages all rows)) (table_named name db)
entries_find usable pages all name [] [] [] h = refl
entries_find usable pages all name [] [] (o ∷ os) h = absurd h
entries_find usable pages all name [] (t ∷ ts) db h = absurd h
entries_find usable pages all name (r ∷ rs) [] db h = absurd h
entries_find usable pages all name (r ∷ rs) (t ∷ ts) [] h = absurd h
entries_find usable pages all name (r ∷ rs) (t ∷ ts) ((id, Other kind named on) ∷ os) h =
    rw h.0.object.0 (entries_find usable pages all name rs ts os h.1)
entries_find usable pages all name (r ∷ rs) (t ∷ ts) ((id, Table table found) ∷ os) h =
    rw h.0.object.0 (go (agree r.name name) refl (entries_find usable pages all name rs ts os h.1))
  where
    same : table ≡ table_of (is_index_page pages) all r
    same = h.0.object.1

    go : (b : Bool) → agree r.name name ≡ b → FindsTable usable pages (entry_named name (part_of pages all rs)) (table_named name os)
        → FindsTable usable pages (entry_named name (entry_of (is_index_page pages) all r ∷ part_of pages all rs)) (table_named name ((id, Table table found) ∷ os))
    go true e next = rw (same, e) (
      found,
      refl,
      held usable pages all r t found h.0.tree (is_some (table_of (is_index_page pages) all r).closed) refl
          (subst (λ (d : TableDef). Whether (is_some d.closed) (found ≡ []) (AreTableRows d (stored_rows usable pages t) found)) same h.0.object.2),
    )
    go false e next = rw (same, e) next

-- pages that stand for a database
pub table_found : (usable count : ℕ) (pages : Paging) (catalog : List Entry) (db : Database) (name : List ℕ) → StandsWith usable count pages catalog db
    → FindsTable usable pages (entry_named name catalog) (table_named name db)
table_found usable count pages catalog db name stands =
    rw stands.catalog_is (entries_find usable pages stands.stands.rows name stands.stands.rows stands.stands.trees db stands.stands.entries)
