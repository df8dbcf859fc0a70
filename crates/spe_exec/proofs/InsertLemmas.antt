-- An open table that gets a row by INSERT.
use Rattle.std.proofs.Common.{◌≡◌, ℕ, suc, ℤ, pos, ◌+◌, Bool, true, false, List, [], ◌∷◌, length, map, Option, Some, None, is_some, Result, Ok, Err, refl, sym, ap, ◌∙◌, subst, arith}
use Rattle.std.specs.Prelude.{◌+ℤ◌, IfErr, nat_lt, if◌then◌else◌}
use Rattle.std.specs.List.{enumerate_from}
use Rattle.std.specs.Option.{option_map_or, unwrap_or}
use Rattle.std.specs.Ordering.{int_eq}
use Rattle.std.proofs.lemmas.List.{length-map}
use Rattle.std.proofs.lemmas.List.FromFn.{length-range_with_len}
use Rattle.spe_model.specs.declared.reply.Refusal.{Refusal}
use Rattle.spe_model.specs.declared.reply.Refusal.TheVariants.{RowidTaken, RowidsUsedUp, TooLarge}
use Rattle.spe_model.specs.declared.reply.Reply.{Reply}
use Rattle.spe_model.specs.declared.reply.Reply.TheVariants as replies
use Rattle.spe_model.specs.declared.statement.Statement.{Statement}
use Rattle.spe_model.specs.declared.table.TableDef.{TableDef}
use Rattle.spe_model.specs.declared.value.Value.{Value}
use Rattle.spe_model.specs.declared.value.Value.TheVariants.{Int, Null}
use Rattle.spe_model.specs.Alias.{is_alias, with_alias}
use Rattle.spe_model.specs.Assigned.{assignments, by_column, given_rowid, given_to, places}
use Rattle.spe_model.specs.declared.naming.Named.TheVariants as named
use Rattle.spe_model.specs.Database.{Database, Row, padded}
use Rattle.spe_model.specs.Length.{fields}
use Rattle.spe_model.specs.Paging.{Agrees, Paging}
use Rattle.spe_model.specs.Record.{record_of}
use Rattle.spe_model.specs.Refusals.{last_rowid, most_record}
use Rattle.spe_model.specs.Rows.{largest, next_rowid, with_row, with_rows}
use Rattle.spe_model.specs.Standing.{AreTableRows, IsTableRow}
use Rattle.spe_model.specs.Statement.{is_insert}
use Rattle.spe_model.specs.Tree.{row_at, tree_rows}
use Rattle.spe_space.specs.declared.fault.TreeFault.{TreeFault}
use Rattle.spe_space.specs.declared.pages.Pages.{Ghosts}
use Rattle.spe_space.specs.Calls.{Reads, sight}
use Rattle.spe_space.specs.Front.{number_in}
use Rattle.spe_frame.specs.Held.{Shifts}
use Rattle.spe_frame.specs.Laws.{ShiftsBoth, ShiftsNone, SparesBoth, SparesMore}
use Rattle.spe_served.specs.Change.{IsServed, TableAlone}
use Rattle.spe_write.specs.Chain.{IsSureOfTree}
use Rattle.spe_search.specs.Last.{last_rowid as last_stored}
use Rattle.spe_slow.specs.Answers.{inserted_at, is_taken, rowid_after, rowid_for, rows_answer}
use Rattle.spe_slow.specs.Rows.{new_values}
use Rattle.spe_slow.proofs.RowsAnswerLemmas.{inserted_by as answered_by}
use Rattle.spe_slow.proofs.TablesLemmas.{with_same}
use Rattle.spe_modify.specs.Row.{GainsRow, HasRowid, IsOpen, SparesOthers, TableOf}
use Rattle.spe_served.proofs.KeysLemmas.{AreNumbered, tree_numbered}
use Rattle.spe_modify.proofs.OrderLemmas.{Ascend}
use Rattle.spe_modify.proofs.RowsLemmas.{taken_is}
use Rattle.spe_modify.proofs.ServedLemmas.{ascend, rows_are}
use Rattle.spe_exec.specs.Inserts.{Carries, IsRecordOf, IsSound, given_at, inserted_by, length_at, long_refusal, next_at, put_in, record_size, refused_long}
use Rattle.spe_exec.proofs.RowsLemmas.{padded_done}
use Rattle.spe_exec.proofs.StoredLemmas.{first_free, last_fits, last_is, next_free}
use Rattle.spe_exec.proofs.GetsLemmas.{own_pages, served_read, sound_after, spares_after, spares_read, sure_fault}

-- the gets between two states are of the table's own tree
abbrev pub GetsOwn : {P : Type 0} (g : Ghosts P) (s new : P) → Paging → TableOf → Type 0
GetsOwn g s new pages t = (alone : TableAlone g t.opening s pages t.db t.name t.entry) → Shifts g s new pages (own_pages g s pages alone.tree) (own_pages g s pages alone.tree) 0

-- the database is as it was, whichever form of it is named
same_rows : {P : Type 0} (g : Ghosts P) (new : P) (pages : Paging) (t : TableOf) (rows : List Row) → rows ≡ t.rows
    → with_rows t.name t.rows t.db ≡ t.db → IsServed g t.opening new pages t.db → IsServed g t.opening new pages (with_rows t.name rows t.db)
same_rows g new pages t rows e same served =
    subst (λ (rs : List Row). IsServed g t.opening new pages (with_rows t.name rs t.db)) (sym e) (subst (λ (db : Database). IsServed g t.opening new pages db) (sym same) served)

-- a reply after gets alone
pub carries_read : {P : Type 0} (g : Ghosts P) (s new : P) (pages : Paging) (root : ℕ) (t : TableOf) (size : ℕ) (outcome : List Row × Reply) (reply : Reply) → IsOpen g s pages root t
    → Agrees pages (g.seen new) → Reads g s new → SparesMore g → GetsOwn g s new pages t → outcome ≡ (t.rows, reply) → Carries g s new pages t size outcome (Ok reply)
carries_read g s new pages root t size outcome reply is agrees reads more gets e =
    rw e (record {
      given = record {
        reply_is = refl;
        served = same_rows g new pages t t.rows refl (with_same t.name t.db t.entry.table t.rows is.found) (served_read g t.opening s new pages t.db agrees reads is.served);
      };
      few = spares_read g s new pages t size more gets;
      likely = λ unsealed. tt;
    })

-- a fault after gets alone
pub fault_read : {P : Type 0} (g : Ghosts P) (s new : P) (pages : Paging) (t : TableOf) (size : ℕ) (outcome : List Row × Reply) (fault : TreeFault) → SparesMore g → GetsOwn g s new pages t
    → IsSound g s new (number_in (sight g new pages)) fault → Carries g s new pages t size outcome (Err fault)
fault_read g s new pages t size outcome fault more gets sound = record { given = tt; few = spares_read g s new pages t size more gets; likely = λ unsealed. sound }

errs_after : {P : Type 0} (g : Ghosts P) (s mid new : P) (number : ℕ) (result : Result Reply TreeFault) → Reads g s mid → IfErr result (IsSound g mid new number)
    → IfErr result (IsSound g s new number)
errs_after g s mid new number (Ok reply) reads is = tt
errs_after g s mid new number (Err fault) reads is = sound_after g s mid new number fault reads is

-- a call after gets
pub carries_after : {P : Type 0} (g : Ghosts P) (s mid new : P) (pages : Paging) (t : TableOf) (size : ℕ) (outcome : List Row × Reply) (result : Result Reply TreeFault) → ShiftsBoth g → SparesBoth g
    → Reads g s mid → GetsOwn g s mid pages t → Carries g mid new pages t size outcome result → Carries g s new pages t size outcome result
carries_after g s mid new pages t size outcome result both spares reads gets carries = record {
  given = carries.given;
  few = spares_after g s mid new pages t size both spares reads gets carries.few;
  likely = λ unsealed. errs_after g s mid new (number_in (sight g new pages)) result reads (carries.likely (reads.sealed ∙ unsealed));
}

-- nothing is got
pub no_gets : {P : Type 0} (g : Ghosts P) (s : P) (pages : Paging) (t : TableOf) → ShiftsNone g → IsServed g t.opening s pages t.db → GetsOwn g s s pages t
no_gets g s pages t law served alone = law s pages (own_pages g s pages alone.tree) served.ready

pub still : {P : Type 0} (g : Ghosts P) (s : P) → Reads g s s
still g s = record {
  earlier = λ pages agrees. agrees;
  laid = refl;
  free = refl;
  stands = λ pages agrees stood. stood;
  told = refl;
  size = refl;
  used = refl;
  limit = refl;
  sealed = refl;
  count = omega arith;
}

abbrev pick : Bool → (yes_one no_one : List Row × Reply) → List Row × Reply
pick b yes_one no_one = if b then yes_one else no_one

put_free : (rows : List Row) (row : Row) → is_taken rows row.0 ≡ false → put_in rows row ≡ (with_row row rows, replies.Inserted row.0)
put_free rows row e = ap (λ (b : Bool). pick b (rows, replies.Refused RowidTaken) (with_row row rows, replies.Inserted row.0)) e

put_taken : (rows : List Row) (row : Row) → is_taken rows row.0 ≡ true → put_in rows row ≡ (rows, replies.Refused RowidTaken)
put_taken rows row e = ap (λ (b : Bool). pick b (rows, replies.Refused RowidTaken) (with_row row rows, replies.Inserted row.0)) e

-- a row is put
pub put_added : {P : Type 0} (g : Ghosts P) (s new : P) (pages : Paging) (t : TableOf) (rowid z : ℤ) (bytes : List ℕ) (values : List Value) (size : ℕ) → z ≡ rowid
    → IsTableRow t.entry.table (rowid, bytes) (rowid, values) → GainsRow g new pages t rowid bytes → SparesOthers g s new pages t size
    → Carries g s new pages t size (put_in t.rows (rowid, values)) (Ok (replies.Inserted z))
put_added g s new pages t rowid z bytes values size one row gains few =
    let carries : Carries g s new pages t size (with_row (rowid, values) t.rows, replies.Inserted rowid) (Ok (replies.Inserted rowid)) =
    record { given = record { reply_is = refl; served = gains.served (rowid, values) row }; few = few; likely = λ unsealed. tt } in
    subst (λ (k : ℤ). Carries g s new pages t size (put_in t.rows (rowid, values)) (Ok (replies.Inserted k))) (sym one)
    (subst (λ (o : List Row × Reply). Carries g s new pages t size o (Ok (replies.Inserted rowid))) (sym (put_free t.rows (rowid, values) gains.absent)) carries)

-- or its rowid is there
pub put_there : {P : Type 0} (g : Ghosts P) (s new : P) (pages : Paging) (root : ℕ) (t : TableOf) (rowid : ℤ) (values : List Value) (size : ℕ) → IsOpen g s pages root t
    → HasRowid g new pages t rowid → SparesOthers g s new pages t size → Carries g s new pages t size (put_in t.rows (rowid, values)) (Ok (replies.Refused RowidTaken))
put_there g s new pages root t rowid values size is there few =
    subst (λ (o : List Row × Reply). Carries g s new pages t size o (Ok (replies.Refused RowidTaken))) (sym (put_taken t.rows (rowid, values) there.present))
    (record {
      given = record { reply_is = refl; served = same_rows g new pages t t.rows refl (with_same t.name t.db t.entry.table t.rows is.found) there.served };
      few = few;
      likely = λ unsealed. tt;
    })

pub put_fails : {P : Type 0} (g : Ghosts P) (s new : P) (pages : Paging) (t : TableOf) (size : ℕ) (outcome : List Row × Reply) (fault : TreeFault) → SparesOthers g s new pages t size
    → (g.sealed s ≡ false → IsSureOfTree (number_in (sight g new pages)) fault) → Carries g s new pages t size outcome (Err fault)
put_fails g s new pages t size outcome fault few likely =
    record { given = tt; few = few; likely = λ unsealed. sure_fault g s new (number_in (sight g new pages)) fault (likely unsealed) }

-- what a row becomes that is put, by the length of its record
put_short : (table : TableDef) (rows : List Row) (s : Statement) (rowid : ℤ) → nat_lt most_record (length_at table s rowid) ≡ false
    → given_at table rows s rowid ≡ put_in rows (rowid, new_values table s rowid)
put_short table rows s rowid e =
    ap (λ (b : Bool). pick (is_taken rows rowid) (rows, replies.Refused RowidTaken)
    (pick b (rows, replies.Refused TooLarge) (with_row (rowid, new_values table s rowid) rows, replies.Inserted rowid))) e

refused_at : (taken : Bool) (rows : List Row) → pick taken (rows, replies.Refused RowidTaken) (rows, replies.Refused TooLarge) ≡ (rows, replies.Refused (long_refusal taken))
refused_at true rows = refl
refused_at false rows = refl

put_long : (table : TableDef) (rows : List Row) (s : Statement) (rowid : ℤ) → nat_lt most_record (length_at table s rowid) ≡ true → given_at table rows s rowid ≡ refused_long rows rowid
put_long table rows s rowid e =
    ap (λ (b : Bool). pick (is_taken rows rowid) (rows, replies.Refused RowidTaken)
    (pick b (rows, replies.Refused TooLarge) (with_row (rowid, new_values table s rowid) rows, replies.Inserted rowid))) e
    ∙ refused_at (is_taken rows rowid) rows

pub at_short : {P : Type 0} (g : Ghosts P) (s new : P) (pages : Paging) (t : TableOf) (q : Statement) (rowid : ℤ) (bytes : List ℕ) (result : Result Reply TreeFault) → IsRecordOf t.entry.table q rowid bytes
    → Carries g s new pages t (length bytes) (put_in t.rows (rowid, new_values t.entry.table q rowid)) result
    → Carries g s new pages t (length_at t.entry.table q rowid) (given_at t.entry.table t.rows q rowid) result
at_short g s new pages t q rowid bytes result is carries =
    subst (λ (o : List Row × Reply). Carries g s new pages t (length_at t.entry.table q rowid) o result) (sym (put_short t.entry.table t.rows q rowid is.small))
    (subst (λ (n : ℕ). Carries g s new pages t n (put_in t.rows (rowid, new_values t.entry.table q rowid)) result) is.size carries)

pub at_long : {P : Type 0} (g : Ghosts P) (s new : P) (pages : Paging) (t : TableOf) (q : Statement) (rowid : ℤ) (result : Result Reply TreeFault)
    → nat_lt most_record (length_at t.entry.table q rowid) ≡ true → Carries g s new pages t (length_at t.entry.table q rowid) (refused_long t.rows rowid) result
    → Carries g s new pages t (length_at t.entry.table q rowid) (given_at t.entry.table t.rows q rowid) result
at_long g s new pages t q rowid result long carries =
    subst (λ (o : List Row × Reply). Carries g s new pages t (length_at t.entry.table q rowid) o result) (sym (put_long t.entry.table t.rows q rowid long)) carries

-- a rowid that is given to no row
pub free_at : (table : TableDef) (rows : List Row) (s : Statement) (rowid : ℤ) → is_taken rows rowid ≡ false → given_at table rows s rowid ≡ inserted_at table rows s rowid
free_at table rows s rowid e = ap (λ (b : Bool). pick b (rows, replies.Refused RowidTaken) (inserted_at table rows s rowid)) e

pub new_short : {P : Type 0} (g : Ghosts P) (s new : P) (pages : Paging) (t : TableOf) (q : Statement) (rowid : ℤ) (bytes : List ℕ) (result : Result Reply TreeFault) → IsRecordOf t.entry.table q rowid bytes
    → is_taken t.rows rowid ≡ false → Carries g s new pages t (length bytes) (put_in t.rows (rowid, new_values t.entry.table q rowid)) result
    → Carries g s new pages t (length_at t.entry.table q rowid) (inserted_at t.entry.table t.rows q rowid) result
new_short g s new pages t q rowid bytes result is free carries =
    subst (λ (o : List Row × Reply). Carries g s new pages t (length_at t.entry.table q rowid) o result) (free_at t.entry.table t.rows q rowid free)
    (at_short g s new pages t q rowid bytes result is carries)

pub new_long : (table : TableDef) (rows : List Row) (s : Statement) (rowid : ℤ) → nat_lt most_record (length_at table s rowid) ≡ true
    → inserted_at table rows s rowid ≡ (rows, replies.Refused TooLarge)
new_long table rows s rowid e =
    ap (λ (b : Bool). pick b (rows, replies.Refused TooLarge) (with_row (rowid, new_values table s rowid) rows, replies.Inserted rowid)) e

-- an INSERT, by the rowid that it gives
given_for : (table : TableDef) (rows : List Row) (s : Statement) (rowid : ℤ) (taken : Bool)
    → inserted_by table rows s (if taken then Err RowidTaken else Ok rowid) ≡ (if taken then (rows, replies.Refused RowidTaken) else inserted_at table rows s rowid)
given_for table rows s rowid true = refl
given_for table rows s rowid false = refl

by_same : (table : TableDef) (rows : List Row) (s : Statement) (rowid : Result ℤ Refusal) → is_insert s ≡ true → rowid ≡ rowid_for rows (given_rowid (assignments table s))
    → inserted_by table rows s rowid ≡ rows_answer table rows s
by_same table rows s (Ok rowid) is e = answered_by table rows s (Ok rowid) is e
by_same table rows s (Err refusal) is e = answered_by table rows s (Err refusal) is e

given_answer : (table : TableDef) (rows : List Row) (s : Statement) (rowid : ℤ) → is_insert s ≡ true → Some rowid ≡ given_rowid (assignments table s)
    → given_at table rows s rowid ≡ rows_answer table rows s
given_answer table rows s rowid is e =
    sym (given_for table rows s rowid (is_taken rows rowid)) ∙ by_same table rows s (if is_taken rows rowid then Err RowidTaken else Ok rowid) is (ap (rowid_for rows) e)

next_answer : (table : TableDef) (rows : List Row) (s : Statement) → is_insert s ≡ true → None ≡ given_rowid (assignments table s) → next_at table rows s ≡ rows_answer table rows s
next_answer table rows s is e = by_same table rows s (rowid_after (largest rows)) is (ap (rowid_for rows) e)

-- the record of the row that an INSERT means
given_size : (table : TableDef) (rows : List Row) (s : Statement) (rowid : ℤ) → Some rowid ≡ given_rowid (assignments table s) → length_at table s rowid ≡ record_size table rows s
given_size table rows s rowid e = ap (λ (o : Option ℤ). length_at table s (unwrap_or o (next_rowid rows))) e

next_size : (table : TableDef) (rows : List Row) (s : Statement) → None ≡ given_rowid (assignments table s) → length_at table s (next_rowid rows) ≡ record_size table rows s
next_size table rows s e = ap (λ (o : Option ℤ). length_at table s (unwrap_or o (next_rowid rows))) e

pub carries_given : {P : Type 0} (g : Ghosts P) (s new : P) (pages : Paging) (t : TableOf) (q : Statement) (rowid : ℤ) (result : Result Reply TreeFault) → is_insert q ≡ true
    → Some rowid ≡ given_rowid (assignments t.entry.table q) → Carries g s new pages t (length_at t.entry.table q rowid) (given_at t.entry.table t.rows q rowid) result
    → Carries g s new pages t (record_size t.entry.table t.rows q) (rows_answer t.entry.table t.rows q) result
carries_given g s new pages t q rowid result is e carries =
    subst (λ (o : List Row × Reply). Carries g s new pages t (record_size t.entry.table t.rows q) o result) (given_answer t.entry.table t.rows q rowid is e)
    (subst (λ (n : ℕ). Carries g s new pages t n (given_at t.entry.table t.rows q rowid) result) (given_size t.entry.table t.rows q rowid e) carries)

pub carries_next : {P : Type 0} (g : Ghosts P) (s new : P) (pages : Paging) (t : TableOf) (q : Statement) (result : Result Reply TreeFault) → is_insert q ≡ true
    → None ≡ given_rowid (assignments t.entry.table q) → Carries g s new pages t (length_at t.entry.table q (next_rowid t.rows)) (next_at t.entry.table t.rows q) result
    → Carries g s new pages t (record_size t.entry.table t.rows q) (rows_answer t.entry.table t.rows q) result
carries_next g s new pages t q result is e carries =
    subst (λ (o : List Row × Reply). Carries g s new pages t (record_size t.entry.table t.rows q) o result) (next_answer t.entry.table t.rows q is e)
    (subst (λ (n : ℕ). Carries g s new pages t n (next_at t.entry.table t.rows q) result) (next_size t.entry.table t.rows q e) carries)

-- the largest rowid as the tree has it
pub largest_is : {P : Type 0} (g : Ghosts P) (s : P) (pages : Paging) (root : ℕ) (t : TableOf) (is : IsOpen g s pages root t) (alone : TableAlone g t.opening s pages t.db t.name t.entry) (last : Option ℤ)
    → last ≡ last_stored (tree_rows (g.used s) (sight g s pages) alone.tree.height root) → last ≡ largest t.rows
largest_is g s pages root t is alone last e =
    let at : alone.tree.root ≡ root = alone.has.grown.0.1 ∙ is.root_is in
    e ∙ ap (λ (r : ℕ). last_stored (tree_rows (g.used s) (sight g s pages) alone.tree.height r)) (sym at)
    ∙ sym (last_is t.entry.table (tree_rows (g.used s) (sight g s pages) alone.tree.height alone.tree.root) t.rows (rows_are g s pages root t is alone))

abbrev some : ℤ → Option ℤ
some n = Some n

abbrev pub ok : ℤ → Result ℤ Refusal
ok n = Ok n

ok_is : (a b : ℤ) → ok a ≡ ok b → a ≡ b
ok_is a b e = cc

not_ok : (refusal : Refusal) (a : ℤ) → Err refusal ≡ ok a → ⊥
not_ok refusal a e = cc

-- the rowid after the largest is free
free_by : (table : TableDef) (xs : List (ℤ × List ℕ)) (rows : List Row) (last : Option ℤ) (rowid : ℤ) → AreTableRows table xs rows → Ascend 0 xs → AreNumbered xs
    → last ≡ last_stored xs → rowid_after last ≡ ok rowid → is_taken rows rowid ≡ false
free_by table xs rows None rowid are up fit e after = first_free table xs rows rowid are (sym e)
free_by table xs rows (Some n) rowid are up fit e after = go (int_eq last_rowid n) after
  where
    go : (q : Bool) → (if q then Err RowidsUsedUp else Ok (n +ℤ pos 1)) ≡ ok rowid → is_taken rows rowid ≡ false
    go true same = absurd (not_ok RowidsUsedUp rowid same)
    go false same = subst (λ (k : ℤ). is_taken rows k ≡ false) (ok_is (n +ℤ pos 1) rowid same) (next_free table 0 xs rows n (last_fits xs n fit (sym e)) up are (sym e))

-- it is the one that an INSERT means
next_is : (last : Option ℤ) (rowid : ℤ) → rowid_after last ≡ ok rowid → rowid ≡ option_map_or (λ n. n +ℤ pos 1) last (pos 1)
next_is None rowid after = sym (ok_is (pos 1) rowid after)
next_is (Some n) rowid after = go (int_eq last_rowid n) after
  where
    go : (q : Bool) → (if q then Err RowidsUsedUp else Ok (n +ℤ pos 1)) ≡ ok rowid → rowid ≡ n +ℤ pos 1
    go true same = absurd (not_ok RowidsUsedUp rowid same)
    go false same = sym (ok_is (n +ℤ pos 1) rowid same)

pub carries_free : {P : Type 0} (g : Ghosts P) (s mid new : P) (pages : Paging) (root : ℕ) (t : TableOf) (q : Statement) (last : Option ℤ) (rowid : ℤ) (result : Result Reply TreeFault)
    → IsOpen g s pages root t → (alone : TableAlone g t.opening s pages t.db t.name t.entry) → ShiftsBoth g → SparesBoth g → Reads g s mid → GetsOwn g s mid pages t
    → last ≡ last_stored (tree_rows (g.used s) (sight g s pages) alone.tree.height root) → rowid_after last ≡ ok rowid
    → (is_taken t.rows rowid ≡ false → Carries g mid new pages t (length_at t.entry.table q rowid) (inserted_at t.entry.table t.rows q rowid) result)
    → Carries g s new pages t (length_at t.entry.table q (next_rowid t.rows)) (next_at t.entry.table t.rows q) result
carries_free g s mid new pages root t q last rowid result is alone both spares reads gets e after carries =
    let table = t.entry.table in
    let at : alone.tree.root ≡ root = alone.has.grown.0.1 ∙ is.root_is in
    let stored = tree_rows (g.used s) (sight g s pages) alone.tree.height alone.tree.root in
    let there : last ≡ last_stored stored = e ∙ ap (λ (r : ℕ). last_stored (tree_rows (g.used s) (sight g s pages) alone.tree.height r)) (sym at) in
    let most : last ≡ largest t.rows = there ∙ sym (last_is table stored t.rows (rows_are g s pages root t is alone)) in
    let free = free_by table stored t.rows last rowid (rows_are g s pages root t is alone) (ascend g s pages t alone)
    (tree_numbered (g.used s) (sight g s pages) alone.tree.height alone.tree.root) there after in
    let next : rowid ≡ next_rowid t.rows = next_is last rowid after ∙ ap (λ (o : Option ℤ). option_map_or (λ n. n +ℤ pos 1) o (pos 1)) most in
    let outcome : inserted_at table t.rows q rowid ≡ next_at table t.rows q = ap (inserted_by table t.rows q) (sym after ∙ ap rowid_after most) in
    carries_after g s mid new pages t (length_at table q (next_rowid t.rows)) (next_at table t.rows q) result both spares reads gets
    (subst (λ (o : List Row × Reply). Carries g mid new pages t (length_at table q (next_rowid t.rows)) o result) outcome
    (subst (λ (k : ℤ). Carries g mid new pages t (length_at table q k) (inserted_at table t.rows q rowid) result) next (carries free)))

-- no rowid is left
pub used_up : {P : Type 0} (g : Ghosts P) (s new : P) (pages : Paging) (root : ℕ) (t : TableOf) (q : Statement) (last : Option ℤ) (refusal : Refusal) → IsOpen g s pages root t
    → (alone : TableAlone g t.opening s pages t.db t.name t.entry) → Agrees pages (g.seen new) → Reads g s new → SparesMore g → GetsOwn g s new pages t
    → last ≡ last_stored (tree_rows (g.used s) (sight g s pages) alone.tree.height root) → rowid_after last ≡ Err refusal
    → Carries g s new pages t (length_at t.entry.table q (next_rowid t.rows)) (next_at t.entry.table t.rows q) (Ok (replies.Refused refusal))
used_up g s new pages root t q last refusal is alone agrees reads more gets e after =
    let most : last ≡ largest t.rows = largest_is g s pages root t is alone last e in
    carries_read g s new pages root t (length_at t.entry.table q (next_rowid t.rows)) (next_at t.entry.table t.rows q) (replies.Refused refusal) is agrees reads more gets
    (ap (inserted_by t.entry.table t.rows q) (ap rowid_after (sym most) ∙ after))

-- a search for the rowid
pub long_read : {P : Type 0} (g : Ghosts P) (s new : P) (pages : Paging) (root : ℕ) (t : TableOf) (size : ℕ) (rowid : ℤ) (found : Option (List ℕ)) (refusal : Refusal) → IsOpen g s pages root t
    → (alone : TableAlone g t.opening s pages t.db t.name t.entry) → Agrees pages (g.seen new) → Reads g s new → SparesMore g → GetsOwn g s new pages t
    → found ≡ row_at rowid (tree_rows (g.used s) (sight g s pages) alone.tree.height root) → refusal ≡ long_refusal (is_some found)
    → Carries g s new pages t size (refused_long t.rows rowid) (Ok (replies.Refused refusal))
long_read g s new pages root t size rowid found refusal is alone agrees reads more gets e why =
    let at : alone.tree.root ≡ root = alone.has.grown.0.1 ∙ is.root_is in
    let stored = tree_rows (g.used s) (sight g s pages) alone.tree.height alone.tree.root in
    let taken : is_taken t.rows rowid ≡ is_some found =
    taken_is t.entry.table rowid stored t.rows (rows_are g s pages root t is alone)
    ∙ ap (λ (r : ℕ). is_some (row_at rowid (tree_rows (g.used s) (sight g s pages) alone.tree.height r))) at
    ∙ ap (λ (o : Option (List ℕ)). is_some o) (sym e) in
    carries_read g s new pages root t size (refused_long t.rows rowid) (replies.Refused refusal) is agrees reads more gets
    (ap (λ (b : Bool). (t.rows, replies.Refused (long_refusal b))) taken ∙ ap (λ (r : Refusal). (t.rows, replies.Refused r)) (sym why))

-- a row that reads back as these values
again_null : (alias : Option ℕ) (v w : Value) (k : ℕ) (xs : List Value)
    → map (λ (x : ℕ × Value). if is_alias alias x.0 then v else x.1) (enumerate_from k (map (λ (x : ℕ × Value). if is_alias alias x.0 then w else x.1) (enumerate_from k
    (map (λ (x : ℕ × Value). if is_alias alias x.0 then v else x.1) (enumerate_from k xs)))))
    ≡ map (λ (x : ℕ × Value). if is_alias alias x.0 then v else x.1) (enumerate_from k xs)
again_null alias v w k [] = refl
again_null alias v w k (x ∷ xs) =
    ap (λ (ys : List Value). (if is_alias alias k then v else (if is_alias alias k then w else (if is_alias alias k then v else x))) ∷ ys) (again_null alias v w (k + 1) xs)
    ∙ ap (λ (y : Value). y ∷ map (λ (z : ℕ × Value). if is_alias alias z.0 then v else z.1) (enumerate_from (k + 1) xs)) (first (is_alias alias k))
  where
    first : (b : Bool) → (if b then v else (if b then w else (if b then v else x))) ≡ (if b then v else x)
    first true = refl
    first false = refl

length_alias : (alias : Option ℕ) (v : Value) (k : ℕ) (xs : List Value) → length (map (λ (x : ℕ × Value). if is_alias alias x.0 then v else x.1) (enumerate_from k xs)) ≡ length xs
length_alias alias v k [] = refl
length_alias alias v k (x ∷ xs) = ap suc (length_alias alias v (k + 1) xs)

length_given : (table : TableDef) (s : Statement) → length (map (λ value. unwrap_or value Null) (by_column table (assignments table s))) ≡ length table.columns
length_given table s =
    length-map (by_column table (assignments table s)) (λ value. unwrap_or value Null)
    ∙ length-map (places table) (λ place. given_to (named.Column place) (assignments table s))
    ∙ length-range_with_len 0 (length table.columns)

pub row_of : (table : TableDef) (s : Statement) (rowid : ℤ) (bytes : List ℕ) → record_of bytes ≡ Ok (fields table.alias (new_values table s rowid))
    → IsTableRow table (rowid, bytes) (rowid, new_values table s rowid)
row_of table s rowid bytes read =
    let raw = map (λ value. unwrap_or value Null) (by_column table (assignments table s)) in
    let written = fields table.alias (new_values table s rowid) in
    let long : length written ≡ length table.columns =
    length_alias table.alias Null 0 (new_values table s rowid) ∙ length_alias table.alias (Int rowid) 0 raw ∙ length_given table s in
    let whole : padded written (length table.columns) ≡ written = padded_done written (length table.columns) (omega (arith, long)) in
    let same : with_alias table.alias (Int rowid) written ≡ new_values table s rowid = again_null table.alias (Int rowid) Null 0 raw in
    (written, read, omega (arith, long), ap (λ (vs : List Value). (rowid, vs)) (sym (ap (with_alias table.alias (Int rowid)) whole ∙ same)))
