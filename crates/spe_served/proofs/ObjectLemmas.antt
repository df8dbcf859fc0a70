-- The objects of a schema of which one table has other rows.
use Rattle.std.proofs.Common.{◌≡◌, ℕ, true, false, List, [], ◌∷◌, ◌++◌, Option, Some, None, is_some, refl, sym, ap, ◌∙◌, subst}
use Rattle.std.specs.Prelude.{ℤ}
use Rattle.std.proofs.lemmas.Bool.{false≢true}
use Rattle.spe_model.specs.declared.table.TableDef.{TableDef}
use Rattle.spe_model.specs.Agree.{agree}
use Rattle.spe_model.specs.Database.{Database, Object, Other, Row, Table}
use Rattle.spe_model.specs.Paging.{Paging}
use Rattle.spe_model.specs.Rows.{table_named, with_rows}
use Rattle.spe_model.specs.Schema.{SchemaRow, is_index_page, is_table_row, root_of, table_of}
use Rattle.spe_model.specs.Standing.{AreEntries, AreTableRows, HasTree, IsEntry, IsObjectOf, Tree, Whether, stored_rows}
use Rattle.spe_model.specs.Tree.{tree_rows}
use Rattle.spe_verdict.specs.Frames.{HasObject, HaveObjects}
use Rattle.spe_verdict.proofs.OneLemmas.{same_tree}
use Rattle.spe_served.proofs.EveryLemmas.{Every}
use Rattle.spe_served.proofs.KeptLemmas.{KeepsRow, stored_kept}
use Rattle.spe_served.proofs.TableLemmas.{IsUnlike}

-- a row names the same table
abbrev pub SameTable : (old new : Paging) (all : List SchemaRow) → SchemaRow → Type 0
SameTable old new all row = table_of (is_index_page new) all row ≡ table_of (is_index_page old) all row

object_moved : (usable : ℕ) (old new : Paging) (all : List SchemaRow) (row : SchemaRow) (was is : List (ℤ × List ℕ)) (o : Object) → SameTable old new all row → is ≡ was
    → IsObjectOf usable old all row was o → IsObjectOf usable new all row is o
object_moved usable old new all row was is (Table table found) same rows of = (
  of.0,
  of.1 ∙ sym same,
  subst (λ (xs : List (ℤ × List ℕ)). Whether (is_some table.closed) (found ≡ []) (AreTableRows table xs found)) (sym rows) of.2,
)
object_moved usable old new all row was is (Other kind name on) same rows of = of

object_kept : (usable : ℕ) (old new : Paging) (all : List SchemaRow) (row : SchemaRow) (t : Option Tree) (o : Object) → SameTable old new all row → KeepsRow usable old new row
    → HasTree usable old (root_of row.rootpage) t → IsObjectOf usable old all row (stored_rows usable old t) o
    → (grown : Option Tree) → HasTree usable new (root_of row.rootpage) grown → IsObjectOf usable new all row (stored_rows usable new grown) o
object_kept usable old new all row None o same keeps tree of None has = object_moved usable old new all row [] [] o same refl of
object_kept usable old new all row None o same keeps tree of (Some u) has = absurd (has.0 tree)
object_kept usable old new all row (Some t) o same keeps tree of None has = absurd (tree.0 has)
object_kept usable old new all row (Some t) o same keeps tree of (Some u) has =
    let kept = keeps tree.0 t tree in
    let it : t ≡ u = same_tree usable new (root_of row.rootpage) t u kept.0 has in
    let stored : stored_rows usable new (Some u) ≡ stored_rows usable old (Some t) =
    ap (λ (x : Tree). stored_rows usable new (Some x)) (sym it) ∙ stored_kept usable old new t kept.1 in
    object_moved usable old new all row (stored_rows usable old (Some t)) (stored_rows usable new (Some u)) o same stored of

has_kept : (usable : ℕ) (old new : Paging) (all : List SchemaRow) (row : SchemaRow) (t : Option Tree) (named : ℤ × Object) → SameTable old new all row → KeepsRow usable old new row
    → IsEntry usable old all row t named → HasObject usable new all row named
has_kept usable old new all row t named same keeps entry =
    record { rowid = entry.rowid; object = object_kept usable old new all row t named.1 same keeps entry.tree entry.object }

-- all rows but one
pub objects_kept : (usable : ℕ) (old new : Paging) (all rows : List SchemaRow) (trees : List (Option Tree)) (db : Database) → Every (SameTable old new all) rows
    → Every (KeepsRow usable old new) rows → AreEntries usable old all rows trees db → HaveObjects usable new all rows db
objects_kept usable old new all [] [] [] same keep are = tt
objects_kept usable old new all [] [] (o ∷ os) same keep are = absurd are
objects_kept usable old new all [] (t ∷ ts) db same keep are = absurd are
objects_kept usable old new all (r ∷ rs) [] db same keep are = absurd are
objects_kept usable old new all (r ∷ rs) (t ∷ ts) [] same keep are = absurd are
objects_kept usable old new all (r ∷ rs) (t ∷ ts) (o ∷ os) same keep are =
    (has_kept usable old new all r t o same.0 keep.0 are.0, objects_kept usable old new all rs ts os same.1 keep.1 are.1)

-- what the changed table's row stands for now
pub record Changed (usable : ℕ) (new : Paging) (row : SchemaRow) (table : TableDef) (rows : List Row) : Type 0 where
  pub tree : Tree
  pub has : HasTree usable new (root_of row.rootpage) (Some tree)
  pub sort : tree.table ≡ true
  pub rows_are : AreTableRows table (tree_rows usable new tree.height tree.root) rows

object_changed : (usable : ℕ) (old new : Paging) (all : List SchemaRow) (row : SchemaRow) (table : TableDef) (rows : List Row) → SameTable old new all row → is_table_row row ≡ true
    → table ≡ table_of (is_index_page old) all row → is_some table.closed ≡ false → Changed usable new row table rows
    → (grown : Option Tree) → HasTree usable new (root_of row.rootpage) grown → IsObjectOf usable new all row (stored_rows usable new grown) (Table table rows)
object_changed usable old new all row table rows same is table_is free changed None has = absurd (changed.has.0 has)
object_changed usable old new all row table rows same is table_is free changed (Some u) has =
    let it : changed.tree ≡ u = same_tree usable new (root_of row.rootpage) changed.tree u changed.has has in
    let stored : stored_rows usable new (Some u) ≡ tree_rows usable new changed.tree.height changed.tree.root =
    ap (λ (x : Tree). stored_rows usable new (Some x)) (sym it) ∙ rw changed.sort refl in (
      is,
      table_is ∙ sym same,
      rw (free, stored) changed.rows_are,
    )

abbrev named_of : ℤ → Object → ℤ × Object
named_of rowid object = (rowid, object)

-- the objects of all rows, where the table of a name has other rows
pub objects_changed : (usable : ℕ) (old new : Paging) (all : List SchemaRow) (name : List ℕ) (before : List SchemaRow) (row : SchemaRow) (after : List SchemaRow) (table : TableDef) (rows : List Row)
    (trees : List (Option Tree)) (db : Database) → Every (SameTable old new all) (before ++ row ∷ after) → Every (KeepsRow usable old new) before → Every (KeepsRow usable old new) after
    → Every (IsUnlike name) before → is_table_row row ≡ true → agree row.name name ≡ true → table_of (is_index_page old) all row ≡ table → is_some table.closed ≡ false
    → Changed usable new row table rows → AreEntries usable old all (before ++ row ∷ after) trees db → HaveObjects usable new all (before ++ row ∷ after) (with_rows name rows db)
objects_changed usable old new all name [] row after table rows [] db same kb ka unlike is agrees table_is free changed are = absurd are
objects_changed usable old new all name [] row after table rows (t ∷ ts) [] same kb ka unlike is agrees table_is free changed are = absurd are
objects_changed usable old new all name [] row after table rows (t ∷ ts) ((id, Other kind n on) ∷ os) same kb ka unlike is agrees table_is free changed are =
    absurd (false≢true (sym are.0.object.0 ∙ is))
objects_changed usable old new all name [] row after table rows (t ∷ ts) ((id, Table found_table found) ∷ os) same kb ka unlike is agrees table_is free changed are =
    let mine : found_table ≡ table = are.0.object.1 ∙ table_is in
    let here : agree found_table.name name ≡ true = ap (λ (d : TableDef). agree d.name name) are.0.object.1 ∙ agrees in
    let object : (grown : Option Tree) → HasTree usable new (root_of row.rootpage) grown → IsObjectOf usable new all row (stored_rows usable new grown) (Table found_table rows) =
    subst (λ (d : TableDef). (grown : Option Tree) → HasTree usable new (root_of row.rootpage) grown → IsObjectOf usable new all row (stored_rows usable new grown) (Table d rows)) (sym mine)
    (object_changed usable old new all row table rows same.0 is (sym table_is) free changed) in
    let first : HasObject usable new all row (id, Table found_table rows) = record { rowid = are.0.rowid; object = object } in
    let rest = objects_kept usable old new all after ts os same.1 ka are.1 in
    rw here (first, rest)
objects_changed usable old new all name (r ∷ rs) row after table rows [] db same kb ka unlike is agrees table_is free changed are = absurd are
objects_changed usable old new all name (r ∷ rs) row after table rows (t ∷ ts) [] same kb ka unlike is agrees table_is free changed are = absurd are
objects_changed usable old new all name (r ∷ rs) row after table rows (t ∷ ts) ((id, Other kind n on) ∷ os) same kb ka unlike is agrees table_is free changed are = (
  has_kept usable old new all r t (id, Other kind n on) same.0 kb.0 are.0,
  objects_changed usable old new all name rs row after table rows ts os same.1 kb.1 ka unlike.1 is agrees table_is free changed are.1,
)
objects_changed usable old new all name (r ∷ rs) row after table rows (t ∷ ts) ((id, Table found_table found) ∷ os) same kb ka unlike is agrees table_is free changed are =
    let other : agree found_table.name name ≡ false = ap (λ (d : TableDef). agree d.name name) are.0.object.1 ∙ unlike.0 are.0.object.0 in
    let first : HasObject usable new all r (id, Table found_table found) = has_kept usable old new all r t (id, Table found_table found) same.0 kb.0 are.0 in
    let rest = objects_changed usable old new all name rs row after table rows ts os same.1 kb.1 ka unlike.1 is agrees table_is free changed are.1 in
    rw other (first, rest)

-- the table of a name, as the database has it
pub record Own (usable : ℕ) (pages : Paging) (row : SchemaRow) (table : TableDef) (name : List ℕ) (db : Database) : Type 0 where
  pub tree : Option Tree
  pub has : HasTree usable pages (root_of row.rootpage) tree
  pub rows : List Row
  pub rows_are : AreTableRows table (stored_rows usable pages tree) rows
  pub named : table_named name db ≡ Some (table, rows)

pub own_rows : (usable : ℕ) (pages : Paging) (all : List SchemaRow) (name : List ℕ) (before : List SchemaRow) (row : SchemaRow) (after : List SchemaRow) (table : TableDef)
    (trees : List (Option Tree)) (db : Database) → Every (IsUnlike name) before → is_table_row row ≡ true → agree row.name name ≡ true → table_of (is_index_page pages) all row ≡ table
    → is_some table.closed ≡ false → AreEntries usable pages all (before ++ row ∷ after) trees db → Own usable pages row table name db
own_rows usable pages all name [] row after table [] db unlike is agrees table_is free are = absurd are
own_rows usable pages all name [] row after table (t ∷ ts) [] unlike is agrees table_is free are = absurd are
own_rows usable pages all name [] row after table (t ∷ ts) ((id, Other kind n on) ∷ os) unlike is agrees table_is free are = absurd (false≢true (sym are.0.object.0 ∙ is))
own_rows usable pages all name [] row after table (t ∷ ts) ((id, Table found_table found) ∷ os) unlike is agrees table_is free are =
    let mine : found_table ≡ table = are.0.object.1 ∙ table_is in
    let here : agree found_table.name name ≡ true = ap (λ (d : TableDef). agree d.name name) are.0.object.1 ∙ agrees in
    let open_is : is_some found_table.closed ≡ false = ap (λ (d : TableDef). is_some d.closed) mine ∙ free in
    let rows_are : AreTableRows found_table (stored_rows usable pages t) found = rw open_is at are.0.object.2 in
    record {
      tree = t;
      has = are.0.tree;
      rows = found;
      rows_are = subst (λ (d : TableDef). AreTableRows d (stored_rows usable pages t) found) mine rows_are;
      named = rw here (ap (λ (d : TableDef). Some (d, found)) mine);
    }
own_rows usable pages all name (r ∷ rs) row after table [] db unlike is agrees table_is free are = absurd are
own_rows usable pages all name (r ∷ rs) row after table (t ∷ ts) [] unlike is agrees table_is free are = absurd are
own_rows usable pages all name (r ∷ rs) row after table (t ∷ ts) ((id, Other kind n on) ∷ os) unlike is agrees table_is free are =
    let rest = own_rows usable pages all name rs row after table ts os unlike.1 is agrees table_is free are.1 in
    record { tree = rest.tree; has = rest.has; rows = rest.rows; rows_are = rest.rows_are; named = rest.named }
own_rows usable pages all name (r ∷ rs) row after table (t ∷ ts) ((id, Table found_table found) ∷ os) unlike is agrees table_is free are =
    let other : agree found_table.name name ≡ false = ap (λ (d : TableDef). agree d.name name) are.0.object.1 ∙ unlike.0 are.0.object.0 in
    let rest = own_rows usable pages all name rs row after table ts os unlike.1 is agrees table_is free are.1 in
    record { tree = rest.tree; has = rest.has; rows = rest.rows; rows_are = rest.rows_are; named = rw other rest.named }
