-- A statement on the table that it names, in served pages.
use Rattle.std.proofs.Common.{◌≡◌, ℕ, true, false, ◌&&◌, ◌+◌, List, Option, Some, None, is_some, Result, Ok, Err, refl, sym, ap, ◌∙◌, subst, arith}
use Rattle.std.specs.Prelude.{IfOk}
use Rattle.std.proofs.lemmas.Bool.{false≢true}
use Rattle.spe_model.specs.declared.catalog.Entry.{Entry}
use Rattle.spe_model.specs.declared.reply.Refusal.{Refusal}
use Rattle.spe_model.specs.declared.reply.Refusal.TheVariants as refusals
use Rattle.spe_model.specs.declared.reply.Reply.{Reply}
use Rattle.spe_model.specs.declared.reply.Reply.TheVariants as replies
use Rattle.spe_model.specs.declared.statement.Cond.{Cond}
use Rattle.spe_model.specs.declared.statement.Statement.{Statement}
use Rattle.spe_model.specs.declared.statement.Statement.TheVariants.{Select, Count, Insert, Update, Delete}
use Rattle.spe_model.specs.declared.transaction.TxKind.{TxKind}
use Rattle.spe_model.specs.declared.transaction.TxKind.TheVariants as kinds
use Rattle.spe_model.specs.Database.{Database, Row}
use Rattle.spe_model.specs.Justified.{Opening}
use Rattle.spe_model.specs.Meaning.{meaning}
use Rattle.spe_model.specs.Paging.{Paging}
use Rattle.spe_model.specs.Rows.{table_named, with_rows, written}
use Rattle.spe_model.specs.Statement.{is_insert, is_read_only, is_write, table_name}
use Rattle.spe_space.specs.declared.fault.TreeFault.{TreeFault}
use Rattle.spe_space.specs.declared.pages.Pages.{Ghosts}
use Rattle.spe_space.specs.Calls.{Reads, sight}
use Rattle.spe_space.specs.Front.{number_in}
use Rattle.spe_frame.specs.Laws.{ShiftsNone, SparesMore}
use Rattle.spe_served.specs.Change.{IsServed}
use Rattle.spe_served.specs.Lists.{ListsStand}
use Rattle.spe_slow.specs.Answers.{rows_answer, table_answer}
use Rattle.spe_slow.specs.Refused.{rowless_refusal}
use Rattle.spe_slow.proofs.AnswersLemmas.{left_to_rows, meaning_blocked, meaning_named, meaning_unnamed, refused_by_table}
use Rattle.spe_slow.proofs.RowsAnswerLemmas.{deleted_rows}
use Rattle.spe_slow.proofs.TablesLemmas.{with_same}
use Rattle.spe_insert.specs.Insert.{most_pages}
use Rattle.spe_modify.specs.Row.{IsOpen, TableOf}
use Rattle.spe_modify.specs.Rows.{SparesRows}
use Rattle.spe_exec.specs.Deletes.{deleted_by}
use Rattle.spe_exec.specs.Finding.{entry_named}
use Rattle.spe_exec.specs.Inserts.{Carries, Gives, IsNamed, WhereNamed, record_size}
use Rattle.spe_exec.specs.Updates.{CarriesRows, pages_of_written}
use Rattle.spe_exec.specs.Run.{GivesMeaning, StandsWith}
use Rattle.spe_exec.specs.Writes.{DoesMeaning, IsLikelyWrite, Means, SparesStatement}
use Rattle.spe_exec.proofs.GetsLemmas.{served_read}
use Rattle.spe_exec.proofs.InsertLemmas.{no_gets}
use Rattle.spe_exec.proofs.JustifyingLemmas.{reads_leave, served_with}
use Rattle.spe_exec.proofs.ReadsLemmas.{open_if}
use Rattle.spe_exec.proofs.UpdatingLemmas.{rows_read}
use Rattle.spe_exec.proofs.TableLemmas.{FindsTable, table_found}

-- a table that refuses whatever its rows are
pub refused_table : {P : Type 0} (g : Ghosts P) (s : P) (pages : Paging) (t : TableOf) (q : Statement) (allocs : ℕ) (refusal : Refusal) → ShiftsNone g → SparesMore g → IsNamed g s pages t
    → rowless_refusal t.entry.table q ≡ Some refusal → CarriesRows g s s pages t allocs (table_answer t.entry.table t.rows q) (Ok (replies.Refused refusal))
refused_table g s pages t q allocs refusal law more is e =
    subst (λ (o : List Row × Reply). CarriesRows g s s pages t allocs o (Ok (replies.Refused refusal))) (refused_by_table t.entry.table t.rows q refusal e)
    (record {
      given = record {
        reply_is = refl;
        served = subst (λ (db : Database). IsServed g t.opening s pages db) (sym (with_same t.name t.db t.entry.table t.rows is.found)) is.served;
      };
      few = rows_read g s s pages t allocs more (no_gets g s pages t law is.served);
      likely = λ unsealed. tt;
    })

none_is : {X : Type 0} (o : Option X) → is_some o ≡ false → o ≡ None
none_is None e = refl
none_is (Some x) e = absurd (false≢true (sym e))

-- one that does not is open
pub open_table : {P : Type 0} (g : Ghosts P) (s : P) (pages : Paging) (entry : Entry) (t : TableOf) (q : Statement) → IsNamed g s pages t → t.entry ≡ entry → rowless_refusal entry.table q ≡ None
    → IsOpen g s pages entry.root t
open_table g s pages entry t q is same none = record {
  lists = is.lists;
  served = is.served;
  named = is.named;
  free = ap (λ (e : Entry). e.table.closed) same ∙ none_is entry.table.closed (open_if entry.table q none);
  root_is = ap (λ (e : Entry). e.root) same;
  found = is.found;
}

pub carries_table : {P : Type 0} (g : Ghosts P) (s new : P) (pages : Paging) (t : TableOf) (q : Statement) (allocs : ℕ) (result : Result Reply TreeFault) → rowless_refusal t.entry.table q ≡ None
    → CarriesRows g s new pages t allocs (rows_answer t.entry.table t.rows q) result → CarriesRows g s new pages t allocs (table_answer t.entry.table t.rows q) result
carries_table g s new pages t q allocs result none carries =
    subst (λ (o : List Row × Reply). CarriesRows g s new pages t allocs o result) (left_to_rows t.entry.table t.rows q none) carries

-- the pages stand for the database, with the catalog
pub stands_there : {P : Type 0} (g : Ghosts P) (opening : Opening) (s : P) (pages : Paging) (db : Database) → IsServed g opening s pages db
    → StandsWith (g.used s) (number_in (sight g s pages)) (sight g s pages) opening.catalog db
stands_there g opening s pages db served = served_with opening (number_in (sight g s pages)) (g.used s) (sight g s pages) db (sym served.used) served.since

abbrev pub table_of : Opening → Database → List ℕ → Entry → List Row → TableOf
table_of opening db name entry rows = record { opening = opening; db = db; name = name; entry = entry; rows = rows }

named_there : {P : Type 0} (g : Ghosts P) (opening : Opening) (s : P) (pages : Paging) (db : Database) (name : List ℕ) (entry : Entry) (rows : List Row) → ListsStand g → IsServed g opening s pages db
    → entry_named name opening.catalog ≡ Some entry → table_named name db ≡ Some (entry.table, rows) → IsNamed g s pages (table_of opening db name entry rows)
named_there g opening s pages db name entry rows lists served named found = record { lists = lists; served = served; named = named; found = found }

-- the table answers for the database
given_means : {P : Type 0} (g : Ghosts P) (new : P) (opening : Opening) (pages : Paging) (db : Database) (kind : TxKind) (q : Statement) (entry : Entry) (rows : List Row) (result : Result Reply TreeFault)
    → meaning kind db q ≡ (with_rows (table_name q) (table_answer entry.table rows q).0 db, (table_answer entry.table rows q).1)
    → IfOk result (Gives g new pages (table_of opening db (table_name q) entry rows) (table_answer entry.table rows q))
    → IfOk result (Means g new opening pages (meaning kind db q))
given_means g new opening pages db kind q entry rows (Err fault) e given = tt
given_means g new opening pages db kind q entry rows (Ok reply) e given =
    subst (λ (m : Database × Reply). Means g new opening pages m reply) (sym e) (record { reply_is = given.reply_is; served = given.served })

-- the entry that is found by the name of the statement
entry_found : (name : List ℕ) (q : Statement) (catalog other : List Entry) (found : Option Entry) → name ≡ table_name q → found ≡ entry_named name catalog → other ≡ catalog
    → entry_named (table_name q) other ≡ found
entry_found name q catalog other found n e c = ap (λ (m : List ℕ). entry_named m other) (sym n) ∙ ap (entry_named name) c ∙ sym e

pub named_means : {P : Type 0} (g : Ghosts P) (s new : P) (catalog : List Entry) (kind : TxKind) (q : Statement) (name : List ℕ) (entry : Entry) (result : Result Reply TreeFault) → name ≡ table_name q
    → Some entry ≡ entry_named name catalog → kind ≡ kinds.ReadWrite
    → WhereNamed g s new entry (λ pages t. CarriesRows g s new pages t (pages_of_written (g.used s) t.entry.table (written t.entry.table t.rows q)) (table_answer t.entry.table t.rows q) result) → DoesMeaning g s new catalog kind q result
named_means g s new catalog kind q name entry result n e writes carries opening pages db agrees lists served c =
    let found : entry_named (table_name q) opening.catalog ≡ Some entry = entry_found name q catalog opening.catalog (Some entry) n e c in
    let there : FindsTable (g.used s) (sight g s pages) (Some entry) (table_named (table_name q) db) =
    subst (λ (o : Option Entry). FindsTable (g.used s) (sight g s pages) o (table_named (table_name q) db)) found
    (table_found (g.used s) (number_in (sight g s pages)) (sight g s pages) opening.catalog db (table_name q) (stands_there g opening s pages db served)) in
    let rows = there.0 in
    let free : (is_read_only kind && is_write q) ≡ false = ap (λ (k : TxKind). is_read_only k && is_write q) writes in
    given_means g new opening pages db kind q entry rows result (meaning_named kind db q entry.table rows free there.1)
    (carries pages (table_of opening db (table_name q) entry rows) agrees (named_there g opening s pages db (table_name q) entry rows lists served found there.1) refl).given

pub named_spares : {P : Type 0} (g : Ghosts P) (s new : P) (catalog : List Entry) (q : Statement) (name : List ℕ) (entry : Entry) (result : Result Reply TreeFault) → name ≡ table_name q
    → Some entry ≡ entry_named name catalog
    → WhereNamed g s new entry (λ pages t. CarriesRows g s new pages t (pages_of_written (g.used s) t.entry.table (written t.entry.table t.rows q)) (table_answer t.entry.table t.rows q) result) → SparesStatement g s new catalog q
named_spares g s new catalog q name entry result n e carries opening pages db agrees lists served c other is alone =
    let found : entry_named (table_name q) opening.catalog ≡ Some entry = entry_found name q catalog opening.catalog (Some entry) n e c in
    let named : entry_named (table_name q) opening.catalog ≡ Some other = ap (entry_named (table_name q)) c ∙ is in
    let same : other ≡ entry = some_is other entry (sym named ∙ found) in
    (carries pages (table_of opening db (table_name q) other alone.rows) agrees (named_there g opening s pages db (table_name q) other alone.rows lists served named alone.named) same).few alone
  where
    some_is : (a b : Entry) → Some a ≡ Some b → a ≡ b
    some_is a b same = cc

pub named_likely : {P : Type 0} (g : Ghosts P) (s new : P) (catalog : List Entry) (q : Statement) (name : List ℕ) (entry : Entry) (result : Result Reply TreeFault) → name ≡ table_name q
    → Some entry ≡ entry_named name catalog
    → WhereNamed g s new entry (λ pages t. CarriesRows g s new pages t (pages_of_written (g.used s) t.entry.table (written t.entry.table t.rows q)) (table_answer t.entry.table t.rows q) result) → IsLikelyWrite g s new catalog result
named_likely g s new catalog q name entry result n e carries opening pages db agrees lists served c unsealed =
    let found : entry_named (table_name q) opening.catalog ≡ Some entry = entry_found name q catalog opening.catalog (Some entry) n e c in
    let there : FindsTable (g.used s) (sight g s pages) (Some entry) (table_named (table_name q) db) =
    subst (λ (o : Option Entry). FindsTable (g.used s) (sight g s pages) o (table_named (table_name q) db)) found
    (table_found (g.used s) (number_in (sight g s pages)) (sight g s pages) opening.catalog db (table_name q) (stands_there g opening s pages db served)) in
    (carries pages (table_of opening db (table_name q) entry there.0) agrees (named_there g opening s pages db (table_name q) entry there.0 lists served found there.1) refl).likely unsealed

-- a refusal for which no table is asked
refused_means : {P : Type 0} (g : Ghosts P) (s : P) (opening : Opening) (pages : Paging) (db : Database) (kind : TxKind) (q : Statement) (refusal : Refusal) → IsServed g opening s pages db
    → meaning kind db q ≡ (db, replies.Refused refusal) → Means g s opening pages (meaning kind db q) (replies.Refused refusal)
refused_means g s opening pages db kind q refusal served e =
    subst (λ (m : Database × Reply). Means g s opening pages m (replies.Refused refusal)) (sym e) (record { reply_is = refl; served = served })

pub blocked_means : {P : Type 0} (g : Ghosts P) (s : P) (catalog : List Entry) (kind : TxKind) (q : Statement) → is_write q ≡ true → kind ≡ kinds.ReadOnly
    → DoesMeaning g s s catalog kind q (Ok (replies.Refused refusals.ReadOnly))
blocked_means g s catalog kind q is reads opening pages db agrees lists served c =
    let blocked : (is_read_only kind && is_write q) ≡ true = ap (λ (k : TxKind). is_read_only k && is_write q) reads ∙ is in
    refused_means g s opening pages db kind q refusals.ReadOnly served (meaning_blocked kind db q blocked)

pub unnamed_means : {P : Type 0} (g : Ghosts P) (s : P) (catalog : List Entry) (kind : TxKind) (q : Statement) (name : List ℕ) → name ≡ table_name q → None ≡ entry_named name catalog
    → kind ≡ kinds.ReadWrite → DoesMeaning g s s catalog kind q (Ok (replies.Refused refusals.NoTable))
unnamed_means g s catalog kind q name n e writes opening pages db agrees lists served c =
    let found : entry_named (table_name q) opening.catalog ≡ None = entry_found name q catalog opening.catalog None n e c in
    let there : FindsTable (g.used s) (sight g s pages) None (table_named (table_name q) db) =
    subst (λ (o : Option Entry). FindsTable (g.used s) (sight g s pages) o (table_named (table_name q) db)) found
    (table_found (g.used s) (number_in (sight g s pages)) (sight g s pages) opening.catalog db (table_name q) (stands_there g opening s pages db served)) in
    let free : (is_read_only kind && is_write q) ≡ false = ap (λ (k : TxKind). is_read_only k && is_write q) writes in
    refused_means g s opening pages db kind q refusals.NoTable served (meaning_unnamed kind db q free there)

-- nothing was got or put
pub none_spares : {P : Type 0} (g : Ghosts P) (s : P) (catalog : List Entry) (q : Statement) → ShiftsNone g → SparesMore g → SparesStatement g s s catalog q
none_spares g s catalog q law more opening pages db agrees lists served c entry is alone =
    rows_read g s s pages (table_of opening db (table_name q) entry alone.rows) (pages_of_written (g.used s) entry.table (written entry.table alone.rows q)) more
    (no_gets g s pages (table_of opening db (table_name q) entry alone.rows) law served) alone

pub none_likely : {P : Type 0} (g : Ghosts P) (s : P) (catalog : List Entry) (reply : Reply) → IsLikelyWrite g s s catalog (Ok reply)
none_likely g s catalog reply opening pages db agrees lists served c unsealed = tt

-- a statement that reads leaves the pages served
pub read_means : {P : Type 0} (g : Ghosts P) (s new : P) (catalog : List Entry) (kind : TxKind) (q : Statement) (result : Result Reply TreeFault) → is_write q ≡ false
    → GivesMeaning g s new catalog kind q result → Reads g s new → DoesMeaning g s new catalog kind q result
read_means g s new catalog kind q (Err fault) reads gives gets opening pages db agrees lists served c = tt
read_means g s new catalog kind q (Ok reply) reads gives gets opening pages db agrees lists served c = record {
  reply_is = gives pages agrees (number_in (sight g s pages)) db
      (subst (λ (entries : List Entry). StandsWith (g.used s) (number_in (sight g s pages)) (sight g s pages) entries db) c (stands_there g opening s pages db served));
  served = subst (λ (d : Database). IsServed g opening new pages d) (sym (reads_leave kind db q reads)) (served_read g opening s new pages db agrees gets served);
}

-- an INSERT writes one row
pub insert_rows : {P : Type 0} (g : Ghosts P) (s new : P) (pages : Paging) (t : TableOf) (q : Statement) (outcome : List Row × Reply) (result : Result Reply TreeFault) → is_insert q ≡ true
    → Carries g s new pages t (record_size t.entry.table t.rows q) outcome result
    → CarriesRows g s new pages t (pages_of_written (g.used s) t.entry.table (written t.entry.table t.rows q)) outcome result
insert_rows g s new pages t (Insert name listed columns values) outcome result is carries =
    let q = Insert name listed columns values in
    let one : most_pages (g.used s) (record_size t.entry.table t.rows q) ≡ most_pages (g.used s) (record_size t.entry.table t.rows q) + 0 = omega arith in
    record {
      given = carries.given;
      few = subst (λ (n : ℕ). SparesRows g s new pages t n) one carries.few;
      likely = carries.likely;
    }
insert_rows g s new pages t (Select name all columns conds) outcome result is carries = absurd (false≢true is)
insert_rows g s new pages t (Count name conds) outcome result is carries = absurd (false≢true is)
insert_rows g s new pages t (Update name sets conds) outcome result is carries = absurd (false≢true is)
insert_rows g s new pages t (Delete name conds) outcome result is carries = absurd (false≢true is)

-- a DELETE writes none
pub delete_rows : {P : Type 0} (g : Ghosts P) (s new : P) (pages : Paging) (t : TableOf) (q : Statement) (name : List ℕ) (conds some : List Cond) (result : Result Reply TreeFault) → q ≡ Delete name conds → some ≡ conds
    → CarriesRows g s new pages t 0 (deleted_by some t.rows) result
    → CarriesRows g s new pages t (pages_of_written (g.used s) t.entry.table (written t.entry.table t.rows q)) (rows_answer t.entry.table t.rows q) result
delete_rows g s new pages t q name conds some result e c carries =
    let there : CarriesRows g s new pages t 0 (deleted_by conds t.rows) result = subst (λ (cs : List Cond). CarriesRows g s new pages t 0 (deleted_by cs t.rows) result) c carries in
    rw e (subst (λ (o : List Row × Reply). CarriesRows g s new pages t 0 o result) (deleted_rows t.entry.table t.rows name conds) there)
