-- An open table of served pages that gets a row, or other values in one.
use Rattle.std.proofs.Common.{◌≡◌, ℕ, ℤ, ◌*◌, ◌^◌, ◌<◌, ◌≤◌, true, List, [], length, Option, Some, None, is_some, refl, sym, ap, ◌∙◌, subst, arith}
use Rattle.std.specs.Prelude.{Result, Ok, Err, IfOk}
use Rattle.std.proofs.Math.Nat.{mul-le-mul_left}
use lib.Signed.{mag}
use Rattle.spe_model.specs.declared.catalog.Entry.{Entry}
use Rattle.spe_model.specs.declared.table.TableDef.{TableDef}
use Rattle.spe_model.specs.Database.{Database, Row}
use Rattle.spe_model.specs.Justified.{Opening, ServedSince}
use Rattle.spe_model.specs.Paging.{PageMap, Paging, lay}
use Rattle.spe_model.specs.Rows.{with_row}
use Rattle.spe_model.specs.Served.{IsGrown}
use Rattle.spe_model.specs.Standing.{AreTableRows, IsTreeOf, Tree, pages_of_tree}
use Rattle.spe_model.specs.Tree.{IsTableTree, tree_rows}
use Rattle.spe_space.specs.declared.pages.Pages.{Ghosts}
use Rattle.spe_space.specs.Calls.{Reads, sight}
use Rattle.spe_space.specs.Front.{number_in}
use Rattle.spe_frame.specs.Held.{IsReady, Shifts}
use Rattle.spe_served.specs.Change.{ChangesTable, IsServed, RootHasOne, TableAlone, root_of_table}
use Rattle.spe_served.specs.Lists.{ListsStand}
use Rattle.spe_insert.specs.Insert.{Added, IsOwn, Present, Replaced, Unmatched, marked_root, most_pages}
use Rattle.spe_modify.specs.Row.{ChangesRow, GainsRow, HasRowid, IsOpen, LacksRowid, TableOf, table_with, with_changed}
use Rattle.spe_modify.proofs.OrderLemmas.{Ascend, tree_ascends}
use Rattle.spe_modify.proofs.RowsLemmas.{rows_changed, rows_put, taken_is}

-- what follows of an Ok from one fact, or from two
pub if_ok : {X E : Type 0} {A B : X → Type 0} → (r : Result X E) → ((x : X) → A x → B x) → IfOk r A → IfOk r B
if_ok (Ok x) f a = f x a
if_ok (Err e) f a = a

pub if_ok_both : {X E : Type 0} {A B C : X → Type 0} → (r : Result X E) → ((x : X) → A x → B x → C x) → IfOk r A → IfOk r B → IfOk r C
if_ok_both (Ok x) f a b = f x a b
if_ok_both (Err e) f a b = a

-- such a table's tree stands alone
abbrev pub Alone : {P : Type 0} (g : Ghosts P) (s : P) → Paging → TableOf → Type 0
Alone g s pages t = TableAlone g t.opening s pages t.db t.name t.entry

pub alone_there : {P : Type 0} (g : Ghosts P) (s : P) (pages : Paging) (root : ℕ) (t : TableOf) → (ListsStand g → ChangesTable g) → IsOpen g s pages root t → Alone g s pages t
alone_there g s pages root t law is = law is.lists t.opening s pages t.db t.name t.entry is.served is.named is.free

-- the largest file has few pages
few_pages : (count size : ℕ) → 512 ≤ size → count * size ≤ 2 ^ 30 → count * 512 ≤ 2 ^ 30
few_pages count size low few =
    let e : count * 512 ≤ count * size = mul-le-mul_left count low in omega (arith, e, few)

-- a row may be put into its tree
pub own : {P : Type 0} (g : Ghosts P) (s : P) (pages : Paging) (root : ℕ) (t : TableOf) → 512 ≤ g.size s → IsOpen g s pages root t → (alone : Alone g s pages t)
    → IsOwn g s pages root alone.tree
own g s pages root t low is alone = record {
  ready = is.served.ready;
  sort = alone.has.sort;
  grown = subst (λ (n : ℕ). IsGrown (g.used s) (sight g s pages) (marked_root n) alone.tree) is.root_is alone.has.grown;
  held = alone.held;
  later = alone.later;
  few = few_pages (number_in (sight g s pages)) is.served.since.served.header.page_size (subst (λ (n : ℕ). 512 ≤ n) (sym is.served.size) low) is.served.since.served.front.few;
}

abbrev rows_in : Option (TableDef × List Row) → List Row
rows_in None = []
rows_in (Some found) = found.1

-- the rows of the tree are those of the table
pub rows_are : {P : Type 0} (g : Ghosts P) (s : P) (pages : Paging) (root : ℕ) (t : TableOf) → IsOpen g s pages root t → (alone : Alone g s pages t)
    → AreTableRows t.entry.table (tree_rows (g.used s) (sight g s pages) alone.tree.height alone.tree.root) t.rows
rows_are g s pages root t is alone =
    let same : alone.rows ≡ t.rows = ap rows_in (sym alone.named ∙ is.found) in
    subst (λ (rows : List Row). AreTableRows t.entry.table (tree_rows (g.used s) (sight g s pages) alone.tree.height alone.tree.root) rows) same alone.has.rows_are

pub table_tree : (usable : ℕ) (pages : Paging) (tree : Tree) → tree.table ≡ true → IsTreeOf usable pages tree → IsTableTree usable pages tree.height tree.root
table_tree usable pages tree sort is = rw sort at is

-- and they ascend
pub ascend : {P : Type 0} (g : Ghosts P) (s : P) (pages : Paging) (t : TableOf) (alone : Alone g s pages t)
    → Ascend 0 (tree_rows (g.used s) (sight g s pages) alone.tree.height alone.tree.root)
ascend g s pages t alone =
    tree_ascends (g.used s) (sight g s pages) alone.tree.height 0 18446744073709551616 alone.tree.root
    (table_tree (g.used s) (sight g s pages) alone.tree alone.has.sort alone.has.grown.0.3).1

pub gains : {P : Type 0} (g : Ghosts P) (s new : P) (pages : Paging) (root : ℕ) (t : TableOf) (rowid : ℤ) (payload : List ℕ) → mag rowid < 9223372036854775808
    → IsOpen g s pages root t → (alone : Alone g s pages t) → Added g s new pages root alone.tree rowid payload → GainsRow g new pages t rowid payload
gains g s new pages root t rowid payload fits is alone added =
    let table = t.entry.table in
    let stored = tree_rows (g.used s) (sight g s pages) alone.tree.height alone.tree.root in
    let are = rows_are g s pages root t is alone in
    record {
      absent = taken_is table rowid stored t.rows are ∙ ap (λ (o : Option (List ℕ)). is_some o) added.absent;
      served = λ row stands. alone.again new added.other (most_pages (g.used s) (length payload)) (with_row row t.rows) added.shifts (record {
        sort = added.sort;
        grown = subst (λ (n : ℕ). IsGrown (g.used new) (sight g new pages) (marked_root n) added.other) (sym is.root_is) added.grown;
        rows_are = subst (λ (xs : List (ℤ × List ℕ)). AreTableRows table xs (with_row row t.rows)) (sym added.rows)
            (rows_put table rowid payload row 0 stored t.rows fits stands (ascend g s pages t alone) are added.absent);
      });
    }

-- pages served, with the size of a page
abbrev Sized : (opening : Opening) (size : ℕ) (pages : Paging) (db : Database) → Type 0
Sized opening size pages db = (since : ServedSince opening (number_in pages) pages db) × (since.served.header.page_size ≡ size)

-- nothing was put, so the pages are served as before
pub served_still : {P : Type 0} (g : Ghosts P) (opening : Opening) (s new : P) (pages : Paging) (db : Database) → Reads g s new → IsReady g new pages
    → IsServed g opening s pages db → IsServed g opening new pages db
served_still g opening s new pages db reads ready served =
    let now : Sized opening (g.size s) (sight g new pages) db =
    subst (λ (laid : PageMap). Sized opening (g.size s) (lay laid pages) db) (sym reads.laid) (served.since, served.size) in
    record { since = now.0; size = now.1 ∙ sym reads.size; used = served.used ∙ sym reads.used; ready = ready }

pub has_rowid : {P : Type 0} (g : Ghosts P) (s new : P) (pages : Paging) (root : ℕ) (t : TableOf) (rowid : ℤ)
    → IsOpen g s pages root t → (alone : Alone g s pages t) → Reads g s new → Present g s new pages alone.tree rowid → HasRowid g new pages t rowid
has_rowid g s new pages root t rowid is alone reads present = record {
  present = taken_is t.entry.table rowid (tree_rows (g.used s) (sight g s pages) alone.tree.height alone.tree.root) t.rows (rows_are g s pages root t is alone)
      ∙ ap (λ (o : Option (List ℕ)). is_some o) present.row;
  served = served_still g t.opening s new pages t.db reads present.shifts.ready is.served;
}

-- the tree of the table then is the one that its tree became
shifted : {P : Type 0} (g : Ghosts P) (s new : P) (pages : Paging) (root : ℕ) (t then_ : TableOf) (rowid : ℤ) (payload : List ℕ) → RootHasOne → t.entry.root ≡ root → then_.entry ≡ t.entry
    → (alone : Alone g s pages t) → Replaced g s new pages root alone.tree rowid payload → (later : Alone g new pages then_)
    → Shifts g s new pages (pages_of_tree (g.used s) (sight g s pages) alone.tree) (pages_of_tree (g.used new) (sight g new pages) later.tree) (most_pages (g.used s) (length payload))
shifted g s new pages root t then_ rowid payload one root_is same alone replaced later =
    let grown : IsGrown (g.used new) (sight g new pages) (marked_root root) later.tree =
    subst (λ (n : ℕ). IsGrown (g.used new) (sight g new pages) (marked_root n) later.tree) (ap (λ (e : Entry). e.root) same ∙ root_is) later.has.grown in
    let is = one (g.used new) (sight g new pages) (marked_root root) replaced.other later.tree replaced.grown grown in
    subst (λ (x : Tree). Shifts g s new pages (pages_of_tree (g.used s) (sight g s pages) alone.tree) (pages_of_tree (g.used new) (sight g new pages) x) (most_pages (g.used s) (length payload))) is replaced.shifts

pub changes : {P : Type 0} (g : Ghosts P) (s new : P) (pages : Paging) (root : ℕ) (t : TableOf) (rowid : ℤ) (payload : List ℕ) → RootHasOne
    → IsOpen g s pages root t → (alone : Alone g s pages t) → ((alone : Alone g s pages t) → Replaced g s new pages root alone.tree rowid payload) → ChangesRow g s new pages t rowid payload
changes g s new pages root t rowid payload one is alone all =
    let replaced = all alone in
    let table = t.entry.table in
    let stored = tree_rows (g.used s) (sight g s pages) alone.tree.height alone.tree.root in
    let are = rows_are g s pages root t is alone in
    record {
      present = taken_is table rowid stored t.rows are ∙ replaced.present;
      served = λ row stands. alone.again new replaced.other (most_pages (g.used s) (length payload)) (with_changed row t.rows) replaced.shifts (record {
        sort = replaced.sort;
        grown = subst (λ (n : ℕ). IsGrown (g.used new) (sight g new pages) (marked_root n) replaced.other) (sym is.root_is) replaced.grown;
        rows_are = subst (λ (xs : List (ℤ × List ℕ)). AreTableRows table xs (with_changed row t.rows)) (sym replaced.rows)
            (rows_changed table rowid payload row stored t.rows stands are);
      });
      shifts = λ row it later. shifted g s new pages root t (table_with t (with_changed row t.rows)) rowid payload one is.root_is refl it (all it) later;
    }

-- the tree of a table is where it was
stayed : {P : Type 0} (g : Ghosts P) (s new : P) (pages : Paging) (t : TableOf) (rowid : ℤ) → RootHasOne → Reads g s new
    → (alone : Alone g s pages t) → Unmatched g s new pages alone.tree rowid → (later : Alone g new pages t)
    → Shifts g s new pages (pages_of_tree (g.used s) (sight g s pages) alone.tree) (pages_of_tree (g.used new) (sight g new pages) later.tree) 0
stayed g s new pages t rowid one reads alone none later =
    let grown : IsGrown (g.used new) (sight g new pages) (root_of_table t.entry) alone.tree = rw (reads.used, reads.laid) alone.has.grown in
    let is = one (g.used new) (sight g new pages) (root_of_table t.entry) alone.tree later.tree grown later.has.grown in
    let own = pages_of_tree (g.used s) (sight g s pages) alone.tree in
    let same : own ≡ pages_of_tree (g.used new) (sight g new pages) alone.tree = rw (reads.used, reads.laid) refl in
    subst (λ (x : Tree). Shifts g s new pages own (pages_of_tree (g.used new) (sight g new pages) x) 0) is
    (subst (λ (ys : List ℕ). Shifts g s new pages own ys 0) same none.shifts)

pub lacks_rowid : {P : Type 0} (g : Ghosts P) (s new : P) (pages : Paging) (root : ℕ) (t : TableOf) (rowid : ℤ) → RootHasOne
    → IsOpen g s pages root t → (alone : Alone g s pages t) → Reads g s new → ((alone : Alone g s pages t) → Unmatched g s new pages alone.tree rowid) → LacksRowid g s new pages t rowid
lacks_rowid g s new pages root t rowid one is alone reads all = let none = all alone in record {
  absent = taken_is t.entry.table rowid (tree_rows (g.used s) (sight g s pages) alone.tree.height alone.tree.root) t.rows (rows_are g s pages root t is alone)
      ∙ ap (λ (o : Option (List ℕ)). is_some o) none.absent;
  served = served_still g t.opening s new pages t.db reads none.shifts.ready is.served;
  shifts = λ it later. stayed g s new pages t rowid one reads it (all it) later;
}
