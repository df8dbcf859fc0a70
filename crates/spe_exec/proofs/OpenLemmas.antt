-- What the steps of an INSERT on an open table come to.
use Rattle.std.proofs.Common.{◌≡◌, ℕ, ℤ, true, false, List, length, Option, is_some, Result, Ok, Err, sym, ap, ◌∙◌, subst}
use Rattle.std.specs.Prelude.{nat_lt}
use Rattle.std.specs.List.{Contains}
use Rattle.spe_model.specs.declared.catalog.Entry.{Entry}
use Rattle.spe_model.specs.declared.reply.Refusal.{Refusal}
use Rattle.spe_model.specs.declared.reply.Refusal.TheVariants.{TooLarge}
use Rattle.spe_model.specs.declared.reply.Reply.{Reply}
use Rattle.spe_model.specs.declared.reply.Reply.TheVariants as replies
use Rattle.spe_model.specs.declared.statement.Statement.{Statement}
use Rattle.spe_model.specs.declared.table.TableDef.{TableDef}
use Rattle.spe_model.specs.declared.value.Value.{Value}
use Rattle.spe_model.specs.Database.{Row}
use Rattle.spe_model.specs.Length.{fields, record_length}
use Rattle.spe_model.specs.Paging.{Agrees, Paging}
use Rattle.spe_model.specs.Record.{record_of}
use Rattle.spe_model.specs.Refusals.{most_record}
use Rattle.spe_model.specs.Rows.{next_rowid}
use Rattle.spe_model.specs.Standing.{IsTableRow, all_pages}
use Rattle.spe_model.specs.Tree.{IsTableTree, rank, row_at, tree_rows}
use Rattle.spe_space.specs.declared.fault.TreeFault.{TreeFault}
use Rattle.spe_space.specs.declared.pages.Pages.{Ghosts}
use Rattle.spe_space.specs.Calls.{Reads, sight}
use Rattle.spe_space.specs.Found.{Answers, OnMissing}
use Rattle.spe_frame.specs.Laws.{ReadsShift, ShiftsBoth, ShiftsNone, SparesBoth, SparesMore}
use Rattle.spe_served.specs.Change.{ChangesTable, TableAlone}
use Rattle.spe_served.specs.Lists.{ListsStand}
use Rattle.spe_search.specs.Found.{FindsPayload}
use Rattle.spe_search.specs.Inside.{MissesTree}
use Rattle.spe_search.specs.Last.{AddsOfLast, FindsLast, last_rowid as last_stored}
use Rattle.spe_search.specs.Range.{AddsOfRange}
use Rattle.spe_slow.specs.Answers.{inserted_at, is_taken, rowid_after}
use Rattle.spe_slow.specs.Rows.{new_values}
use Rattle.spe_modify.specs.Row.{IsOpen, TableOf}
use Rattle.spe_modify.proofs.ServedLemmas.{alone_there}
use Rattle.spe_exec.specs.Inserts.{Carries, IsRecordOf, given_at, length_at, long_refusal, next_at, put_in, refused_long}
use Rattle.spe_exec.proofs.GetsLemmas.{find_gets, last_gets, open_read, sound_gets, tree_there}
use Rattle.spe_exec.proofs.InsertLemmas.{GetsOwn, at_long, at_short, carries_free, carries_read, fault_read, free_at, long_read, new_long, no_gets, ok, row_of, still, used_up}

-- the gets of a search in an open table's tree are its own
pub last_own : {P : Type 0} (g : Ghosts P) (s new : P) (pages : Paging) (root : ℕ) (t : TableOf) → ReadsShift g → IsOpen g s pages root t → Agrees pages (g.seen new) → Reads g s new
    → AddsOfLast g s new root → GetsOwn g s new pages t
last_own g s new pages root t law is agrees reads adds alone =
    last_gets g t.opening s new pages t.db t.name t.entry law agrees is.served.ready reads (subst (λ (r : ℕ). AddsOfLast g s new r) (sym is.root_is) adds) alone

pub find_own : {P : Type 0} (g : Ghosts P) (s new : P) (pages : Paging) (root : ℕ) (t : TableOf) (rowid : ℤ) → ReadsShift g → IsOpen g s pages root t → Agrees pages (g.seen new) → Reads g s new
    → AddsOfRange g s new root (rank rowid) (rank rowid) → GetsOwn g s new pages t
find_own g s new pages root t rowid law is agrees reads adds alone =
    find_gets g t.opening s new pages t.db t.name t.entry rowid law agrees is.served.ready reads
    (subst (λ (r : ℕ). AddsOfRange g s new r (rank rowid) (rank rowid)) (sym is.root_is) adds) alone

-- the tree under the root of an open table
pub tree_at : {P : Type 0} (g : Ghosts P) (s : P) (pages : Paging) (root : ℕ) (t : TableOf) → IsOpen g s pages root t → (alone : TableAlone g t.opening s pages t.db t.name t.entry)
    → IsTableTree (g.used s) (sight g s pages) alone.tree.height root
tree_at g s pages root t is alone =
    subst (λ (r : ℕ). IsTableTree (g.used s) (sight g s pages) alone.tree.height r) is.root_is (tree_there g t.opening s pages t.db t.name t.entry alone)

-- a search fails
search_fails : {P Y : Type 0} (g : Ghosts P) (s new : P) (pages : Paging) (root : ℕ) (t : TableOf) (size : ℕ) (outcome : List Row × Reply) (there : Y) (fault : TreeFault) → SparesMore g
    → IsOpen g s pages root t → Reads g s new → (alone : TableAlone g t.opening s pages t.db t.name t.entry) → GetsOwn g s new pages t → Answers (λ (y : Y). y) there (Err fault)
    → OnMissing (Contains (all_pages (g.used s) (sight g s pages) alone.tree.height root)) fault → Carries g s new pages t size outcome (Err fault)
search_fails g s new pages root t size outcome there fault more is reads alone gets answers missing =
    fault_read g s new pages t size outcome fault more gets
    (sound_gets g t.opening s new pages t.db t.name t.entry there fault reads alone answers
    (subst (λ (r : ℕ). OnMissing (Contains (all_pages (g.used s) (sight g s pages) alone.tree.height r)) fault) (sym is.root_is) missing))

pub last_fails : {P : Type 0} (g : Ghosts P) (s new : P) (pages : Paging) (root : ℕ) (t : TableOf) (size : ℕ) (outcome : List Row × Reply) (fault : TreeFault) → (ListsStand g → ChangesTable g)
    → ReadsShift g → SparesMore g → IsOpen g s pages root t → Agrees pages (g.seen new) → Reads g s new → AddsOfLast g s new root → FindsLast g s new root (Err fault)
    → MissesTree {X = Option ℤ} g s new root (Err fault) → Carries g s new pages t size outcome (Err fault)
last_fails g s new pages root t size outcome fault law shift more is agrees reads adds finds misses =
    let alone = alone_there g s pages root t law is in
    let tree = tree_at g s pages root t is alone in
    search_fails g s new pages root t size outcome (last_stored (tree_rows (g.used s) (sight g s pages) alone.tree.height root)) fault more is reads alone
    (last_own g s new pages root t shift is agrees reads adds) (finds pages agrees alone.tree.height tree) (misses pages agrees alone.tree.height tree)

pub find_fails : {P : Type 0} (g : Ghosts P) (s new : P) (pages : Paging) (root : ℕ) (t : TableOf) (size : ℕ) (outcome : List Row × Reply) (rowid : ℤ) (fault : TreeFault)
    → (ListsStand g → ChangesTable g) → ReadsShift g → SparesMore g → IsOpen g s pages root t → Agrees pages (g.seen new) → Reads g s new
    → AddsOfRange g s new root (rank rowid) (rank rowid) → FindsPayload g s new root rowid (Err fault)
    → MissesTree {X = Option (List ℕ)} g s new root (Err fault) → Carries g s new pages t size outcome (Err fault)
find_fails g s new pages root t size outcome rowid fault law shift more is agrees reads adds finds misses =
    let alone = alone_there g s pages root t law is in
    let tree = tree_at g s pages root t is alone in
    search_fails g s new pages root t size outcome (row_at rowid (tree_rows (g.used s) (sight g s pages) alone.tree.height root)) fault more is reads alone
    (find_own g s new pages root t rowid shift is agrees reads adds) (finds pages agrees alone.tree.height tree) (misses pages agrees alone.tree.height tree)

-- a search for a rowid whose row would be too long
pub long_found : {P : Type 0} (g : Ghosts P) (s new : P) (pages : Paging) (root : ℕ) (t : TableOf) (size : ℕ) (rowid : ℤ) (found : Option (List ℕ)) (refusal : Refusal)
    → (ListsStand g → ChangesTable g) → ReadsShift g → SparesMore g → IsOpen g s pages root t → Agrees pages (g.seen new) → Reads g s new
    → AddsOfRange g s new root (rank rowid) (rank rowid) → FindsPayload g s new root rowid (Ok found) → refusal ≡ long_refusal (is_some found)
    → Carries g s new pages t size (refused_long t.rows rowid) (Ok (replies.Refused refusal))
long_found g s new pages root t size rowid found refusal law shift more is agrees reads adds finds why =
    let alone = alone_there g s pages root t law is in
    long_read g s new pages root t size rowid found refusal is alone agrees reads more (find_own g s new pages root t rowid shift is agrees reads adds)
    (finds pages agrees alone.tree.height (tree_at g s pages root t is alone)) why

-- the row gets the rowid after the largest
pub next_found : {P : Type 0} (g : Ghosts P) (s mid new : P) (pages : Paging) (root : ℕ) (t : TableOf) (q : Statement) (last : Option ℤ) (rowid : ℤ) (result : Result Reply TreeFault)
    → (ListsStand g → ChangesTable g) → ReadsShift g → ShiftsBoth g → SparesBoth g → IsOpen g s pages root t → Agrees pages (g.seen mid) → Reads g s mid
    → AddsOfLast g s mid root → FindsLast g s mid root (Ok last) → rowid_after last ≡ ok rowid
    → (IsOpen g mid pages root t → is_taken t.rows rowid ≡ false → Carries g mid new pages t (length_at t.entry.table q rowid) (inserted_at t.entry.table t.rows q rowid) result)
    → Carries g s new pages t (length_at t.entry.table q (next_rowid t.rows)) (next_at t.entry.table t.rows q) result
next_found g s mid new pages root t q last rowid result law shift both spares is agrees reads adds finds after carries =
    let alone = alone_there g s pages root t law is in
    carries_free g s mid new pages root t q last rowid result is alone both spares reads (last_own g s mid pages root t shift is agrees reads adds)
    (finds pages agrees alone.tree.height (tree_at g s pages root t is alone)) after (carries (open_read g s mid pages root t agrees reads is))

pub next_none : {P : Type 0} (g : Ghosts P) (s new : P) (pages : Paging) (root : ℕ) (t : TableOf) (q : Statement) (last : Option ℤ) (refusal : Refusal) → (ListsStand g → ChangesTable g)
    → ReadsShift g → SparesMore g → IsOpen g s pages root t → Agrees pages (g.seen new) → Reads g s new → AddsOfLast g s new root → FindsLast g s new root (Ok last)
    → rowid_after last ≡ Err refusal → Carries g s new pages t (length_at t.entry.table q (next_rowid t.rows)) (next_at t.entry.table t.rows q) (Ok (replies.Refused refusal))
next_none g s new pages root t q last refusal law shift more is agrees reads adds finds after =
    let alone = alone_there g s pages root t law is in
    used_up g s new pages root t q last refusal is alone agrees reads more (last_own g s new pages root t shift is agrees reads adds)
    (finds pages agrees alone.tree.height (tree_at g s pages root t is alone)) after

-- the record of a new row is put
pub put_record : {P : Type 0} (g : Ghosts P) (s new : P) (pages : Paging) (t : TableOf) (entry : Entry) (q : Statement) (rowid z : ℤ) (bytes read : List ℕ) (result : Result Reply TreeFault) → t.entry ≡ entry
    → z ≡ rowid → read ≡ bytes → IsRecordOf entry.table q z bytes
    → ((values : List Value) → IsTableRow t.entry.table (z, read) (z, values) → Carries g s new pages t (length read) (put_in t.rows (z, values)) result)
    → Carries g s new pages t (length_at t.entry.table q rowid) (given_at t.entry.table t.rows q rowid) result
put_record g s new pages t entry q rowid z bytes read result same one e is carries =
    let own : IsRecordOf t.entry.table q z bytes = subst (λ (x : Entry). IsRecordOf x.table q z bytes) (sym same) is in
    let there : IsRecordOf t.entry.table q z read = subst (λ (bs : List ℕ). IsRecordOf t.entry.table q z bs) (sym e) own in
    subst (λ (k : ℤ). Carries g s new pages t (length_at t.entry.table q k) (given_at t.entry.table t.rows q k) result) one
    (at_short g s new pages t q z read result there (carries (new_values t.entry.table q z) there.row))

pub put_new : {P : Type 0} (g : Ghosts P) (s new : P) (pages : Paging) (t : TableOf) (entry : Entry) (q : Statement) (rowid z : ℤ) (bytes read : List ℕ) (result : Result Reply TreeFault) → t.entry ≡ entry
    → z ≡ rowid → read ≡ bytes → IsRecordOf entry.table q z bytes → is_taken t.rows rowid ≡ false
    → ((values : List Value) → IsTableRow t.entry.table (z, read) (z, values) → Carries g s new pages t (length read) (put_in t.rows (z, values)) result)
    → Carries g s new pages t (length_at t.entry.table q rowid) (inserted_at t.entry.table t.rows q rowid) result
put_new g s new pages t entry q rowid z bytes read result same one e is free carries =
    subst (λ (o : List Row × Reply). Carries g s new pages t (length_at t.entry.table q rowid) o result) (free_at t.entry.table t.rows q rowid free)
    (put_record g s new pages t entry q rowid z bytes read result same one e is carries)

-- or there is none
long_at : (entry : Entry) (t : TableOf) (q : Statement) (rowid z : ℤ) → t.entry ≡ entry → z ≡ rowid → nat_lt most_record (length_at entry.table q z) ≡ true
    → nat_lt most_record (length_at t.entry.table q rowid) ≡ true
long_at entry t q rowid z same one long =
    subst (λ (k : ℤ). nat_lt most_record (length_at t.entry.table q k) ≡ true) one (subst (λ (x : Entry). nat_lt most_record (length_at x.table q z) ≡ true) (sym same) long)

pub no_record : {P : Type 0} (g : Ghosts P) (s new : P) (pages : Paging) (t : TableOf) (entry : Entry) (q : Statement) (rowid z : ℤ) (result : Result Reply TreeFault) → t.entry ≡ entry → z ≡ rowid
    → nat_lt most_record (length_at entry.table q z) ≡ true
    → Carries g s new pages t (length_at t.entry.table q rowid) (refused_long t.rows z) result
    → Carries g s new pages t (length_at t.entry.table q rowid) (given_at t.entry.table t.rows q rowid) result
no_record g s new pages t entry q rowid z result same one long carries =
    at_long g s new pages t q rowid result (long_at entry t q rowid z same one long)
    (subst (λ (k : ℤ). Carries g s new pages t (length_at t.entry.table q rowid) (refused_long t.rows k) result) one carries)

pub none_new : {P : Type 0} (g : Ghosts P) (s : P) (pages : Paging) (t : TableOf) (entry : Entry) (root : ℕ) (q : Statement) (rowid z : ℤ) → t.entry ≡ entry → z ≡ rowid
    → nat_lt most_record (length_at entry.table q z) ≡ true → IsOpen g s pages root t → Agrees pages (g.seen s) → ShiftsNone g → SparesMore g
    → Carries g s s pages t (length_at t.entry.table q rowid) (inserted_at t.entry.table t.rows q rowid) (Ok (replies.Refused TooLarge))
none_new g s pages t entry root q rowid z same one long is agrees none more =
    carries_read g s s pages root t (length_at t.entry.table q rowid) (inserted_at t.entry.table t.rows q rowid) (replies.Refused TooLarge) is agrees (still g s) more
    (no_gets g s pages t none is.served) (new_long t.entry.table t.rows q rowid (long_at entry t q rowid z same one long))

-- the record that is written for a new row
pub record_new : (table : TableDef) (s : Statement) (rowid z : ℤ) (values : List Value) (bytes : List ℕ) → z ≡ rowid → values ≡ new_values table s z
    → nat_lt most_record (record_length table.alias values) ≡ false → length bytes ≡ record_length table.alias values → record_of bytes ≡ Ok (fields table.alias values) → IsRecordOf table s rowid bytes
record_new table s rowid z values bytes one are short long read =
    let same : values ≡ new_values table s rowid = are ∙ ap (new_values table s) one in
    record {
      size = long ∙ ap (record_length table.alias) same;
      small = ap (λ (vs : List Value). nat_lt most_record (record_length table.alias vs)) (sym same) ∙ short;
      row = row_of table s rowid bytes (read ∙ ap (λ (vs : List Value). Ok (fields table.alias vs)) same);
    }
