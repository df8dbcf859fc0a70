-- What rows answer to each kind of statement that only they may refuse.
use Rattle.std.proofs.Common.{◌≡◌, ℕ, Bool, true, false, ◌||◌, ◌&&◌, List, length, map, refl, sym, ap, ◌∙◌, Option, Some, None}
use Rattle.std.specs.Prelude.{ℤ, pos, ◌+ℤ◌, not, filter, nat_lt, is_none, Result, Ok, Err, IfOk, if◌then◌else◌}
use Rattle.std.specs.List.{list_any}
use Rattle.std.specs.List.Sorted.{IsStrictlySortedBy}
use Rattle.std.specs.Map.{keys_of}
use Rattle.std.specs.Option.{option_map_or, unwrap_or}
use Rattle.std.specs.Ordering.{int_cmp, int_eq}
use Rattle.std.proofs.lemmas.List.{length-map}
use Rattle.spe_model.specs.declared.value.Value.{Value}
use Rattle.spe_model.specs.declared.table.TableDef.{TableDef}
use Rattle.spe_model.specs.declared.statement.Cond.{Cond}
use Rattle.spe_model.specs.declared.statement.Statement.{Statement}
use Rattle.spe_model.specs.declared.statement.Statement.TheVariants.{Select, Count, Insert, Update, Delete}
use Rattle.spe_model.specs.declared.reply.Refusal.{Refusal}
use Rattle.spe_model.specs.declared.reply.Refusal.TheVariants.{RowidTaken, RowidsUsedUp, TooLarge}
use Rattle.spe_model.specs.declared.reply.Reply.{Reply}
use Rattle.spe_model.specs.declared.reply.Reply.TheVariants as replies
use Rattle.spe_model.specs.Database.{Row}
use Rattle.spe_model.specs.Statement.{is_insert, is_update, conds_of}
use Rattle.spe_model.specs.Conditions.{is_chosen, chosen}
use Rattle.spe_model.specs.Assigned.{assignments, by_column, given_rowid}
use Rattle.spe_model.specs.Length.{record_length}
use Rattle.spe_model.specs.Refusals.{is_rowid_taken, are_rowids_used_up, is_too_large, last_rowid, most_record}
use Rattle.spe_model.specs.Rows.{largest, next_rowid, selected, with_row}
use Rattle.spe_model.specs.Meaning.{rows_after, reply_to}
use Rattle.spe_slow.specs.Answers.{rows_refusal, answered_with, rows_answer, rowid_after, is_taken, rowid_for, inserted_at}
use Rattle.spe_slow.specs.Rows.{new_values, changed_values}
use Rattle.spe_slow.specs.Table.{with_written}
use Rattle.spe_slow.proofs.OrderLemmas.{written_each}

-- a refusal leaves the rows
abbrev refused_or : Option Refusal → List Row → List Row × Reply → List Row × Reply
refused_or (Some refusal) rows done = (rows, replies.Refused refusal)
refused_or None rows done = done

answered_is : (refusal : Option Refusal) (table : TableDef) (rows : List Row) (s : Statement) → answered_with refusal table rows s ≡ refused_or refusal rows (rows_after table rows s, reply_to table rows s)
answered_is (Some refusal) table rows s = refl
answered_is None table rows s = refl

-- the lowest of the three for which there is cause
abbrev lowest : Bool → Bool → Bool → Option Refusal
lowest taken used long = if taken then Some RowidTaken else (if used then Some RowidsUsedUp else (if long then Some TooLarge else None))

-- a new row of this rowid
abbrev new_at : TableDef → List Row → Statement → Bool → Bool → ℤ → List Row × Reply
new_at table rows s taken used rowid =
    refused_or (lowest taken used (nat_lt most_record (record_length table.alias (new_values table s rowid)) || false)) rows
    (with_row (rowid, new_values table s rowid) rows, replies.Inserted rowid)

abbrev by_rowid : TableDef → List Row → Statement → Result ℤ Refusal → List Row × Reply
by_rowid table rows s (Ok rowid) = inserted_at table rows s rowid
by_rowid table rows s (Err refusal) = (rows, replies.Refused refusal)

long_or : (long : Bool) (rows : List Row) (done : List Row × Reply) → refused_or (lowest false false (long || false)) rows done ≡ (if long then (rows, replies.Refused TooLarge) else done)
long_or true rows done = refl
long_or false rows done = refl

new_free : (table : TableDef) (rows : List Row) (s : Statement) (rowid : ℤ) → new_at table rows s false false rowid ≡ inserted_at table rows s rowid
new_free table rows s rowid =
    long_or (nat_lt most_record (record_length table.alias (new_values table s rowid))) rows (with_row (rowid, new_values table s rowid) rows, replies.Inserted rowid)

new_given : (table : TableDef) (rows : List Row) (s : Statement) (rowid : ℤ) (taken : Bool) → new_at table rows s taken false rowid ≡ by_rowid table rows s (if taken then Err RowidTaken else Ok rowid)
new_given table rows s rowid true = refl
new_given table rows s rowid false = new_free table rows s rowid

new_used : (table : TableDef) (rows : List Row) (s : Statement) (rowid : ℤ) (used : Bool) → new_at table rows s false used rowid ≡ by_rowid table rows s (if used then Err RowidsUsedUp else Ok rowid)
new_used table rows s rowid true = refl
new_used table rows s rowid false = new_free table rows s rowid

new_next : (table : TableDef) (rows : List Row) (s : Statement) (last : Option ℤ)
    → new_at table rows s false (option_map_or (int_eq last_rowid) last false) (option_map_or (λ n. n +ℤ pos 1) last (pos 1)) ≡ by_rowid table rows s (rowid_after last)
new_next table rows s None = new_free table rows s (pos 1)
new_next table rows s (Some n) = new_used table rows s (n +ℤ pos 1) (int_eq last_rowid n)

new_by : (table : TableDef) (rows : List Row) (s : Statement) (given : Option ℤ)
    → new_at table rows s (option_map_or (is_taken rows) given false) (is_none given && option_map_or (int_eq last_rowid) (largest rows) false) (unwrap_or given (next_rowid rows))
    ≡ by_rowid table rows s (rowid_for rows given)
new_by table rows s (Some n) = new_given table rows s n (is_taken rows n)
new_by table rows s None = new_next table rows s (largest rows)

-- an INSERT, by the rowid that it takes
inserted : (table : TableDef) (rows : List Row) (s : Statement) → is_insert s ≡ true → rows_answer table rows s ≡ by_rowid table rows s (rowid_for rows (given_rowid (assignments table s)))
unfolding rows_answer is_rowid_taken are_rowids_used_up is_too_large
inserted table rows (Select name all columns conds) is = absurd cc
inserted table rows (Count name conds) is = absurd cc
inserted table rows (Insert name listed columns values) is =
    let s = Insert name listed columns values in
    answered_is (rows_refusal table rows s) table rows s ∙ new_by table rows s (given_rowid (assignments table s))
inserted table rows (Update name sets conds) is = absurd cc
inserted table rows (Delete name conds) is = absurd cc

pub inserted_by : (table : TableDef) (rows : List Row) (s : Statement) (rowid : Result ℤ Refusal) → is_insert s ≡ true → rowid ≡ rowid_for rows (given_rowid (assignments table s))
    → by_rowid table rows s rowid ≡ rows_answer table rows s
inserted_by table rows s rowid is e = ap (by_rowid table rows s) e ∙ sym (inserted table rows s is)

-- the rows that an UPDATE writes
abbrev pub made : List (Option Value) → List Cond → List Row → List Row
made given conds rows = map (λ (r : Row). (r.0, changed_values given r.1)) (chosen conds rows)

abbrev pub is_any_long : TableDef → List Row → Bool
is_any_long table rows = list_any (λ (r : Row). nat_lt most_record (record_length table.alias r.1)) rows

update_refused : (table : TableDef) (rows : List Row) (s : Statement) → is_update s ≡ true → is_any_long table (made (by_column table (assignments table s)) (conds_of s) rows) ≡ true
    → (rows, replies.Refused TooLarge) ≡ rows_answer table rows s
unfolding rows_answer is_rowid_taken are_rowids_used_up is_too_large
update_refused table rows (Select name all columns conds) is long = absurd cc
update_refused table rows (Count name conds) is long = absurd cc
update_refused table rows (Insert name listed columns values) is long = absurd cc
update_refused table rows (Update name sets conds) is long =
    sym (answered_is (rows_refusal table rows (Update name sets conds)) table rows (Update name sets conds)
    ∙ ap (λ b. refused_or (lowest false false b) rows (rows_after table rows (Update name sets conds), reply_to table rows (Update name sets conds))) long)
update_refused table rows (Delete name conds) is long = absurd cc

update_done : (table : TableDef) (rows : List Row) (s : Statement) → is_update s ≡ true → is_any_long table (made (by_column table (assignments table s)) (conds_of s) rows) ≡ false
    → IsStrictlySortedBy int_cmp (keys_of rows)
    → (with_written rows (made (by_column table (assignments table s)) (conds_of s) rows), replies.Changed (length (chosen (conds_of s) rows))) ≡ rows_answer table rows s
unfolding rows_answer is_rowid_taken are_rowids_used_up is_too_large
update_done table rows (Select name all columns conds) is short s = absurd cc
update_done table rows (Count name conds) is short s = absurd cc
update_done table rows (Insert name listed columns values) is short s = absurd cc
update_done table rows (Update name sets conds) is short s =
    ap (λ (after : List Row). (after, replies.Changed (length (chosen conds rows))))
    (written_each (changed_values (by_column table (assignments table (Update name sets conds)))) (λ (r : Row). is_chosen conds r.0) rows s)
    ∙ sym (answered_is (rows_refusal table rows (Update name sets conds)) table rows (Update name sets conds)
    ∙ ap (λ b. refused_or (lowest false false b) rows (rows_after table rows (Update name sets conds), reply_to table rows (Update name sets conds))) short)
update_done table rows (Delete name conds) is short s = absurd cc

-- an UPDATE, by what it gives to the columns
pub updated_not : (table : TableDef) (rows : List Row) (s : Statement) (given : List (Option Value)) (conds : List Cond) (changed : List Row) → is_update s ≡ true
    → given ≡ by_column table (assignments table s) → conds ≡ conds_of s → changed ≡ made given conds rows → true ≡ is_any_long table changed
    → (rows, replies.Refused TooLarge) ≡ rows_answer table rows s
updated_not table rows s given conds changed is e f m long =
    let all = m ∙ ap (λ g. made g conds rows) e ∙ ap (λ cs. made (by_column table (assignments table s)) cs rows) f in
    update_refused table rows s is (sym (long ∙ ap (is_any_long table) all))

pub updated : (table : TableDef) (rows after : List Row) (s : Statement) (given : List (Option Value)) (conds : List Cond) (changed : List Row) (count : ℕ) → is_update s ≡ true
    → given ≡ by_column table (assignments table s) → conds ≡ conds_of s → changed ≡ made given conds rows → false ≡ is_any_long table changed
    → IsStrictlySortedBy int_cmp (keys_of rows) → after ≡ with_written rows changed → count ≡ length changed
    → (after, replies.Changed count) ≡ rows_answer table rows s
updated table rows after s given conds changed count is e f m short ordered w n =
    let all = m ∙ ap (λ g. made g conds rows) e ∙ ap (λ cs. made (by_column table (assignments table s)) cs rows) f in
    ap (λ xs. (xs, replies.Changed count)) (w ∙ ap (with_written rows) all)
    ∙ ap (λ k. (with_written rows (made (by_column table (assignments table s)) (conds_of s) rows), replies.Changed k)) (n ∙ ap length all ∙ length-map (chosen (conds_of s) rows) _)
    ∙ update_done table rows s is (sym (short ∙ ap (is_any_long table) all)) ordered

-- the others are not refused by rows
pub selected_rows : (table : TableDef) (rows : List Row) (name : List ℕ) (all : Bool) (columns : List (List ℕ)) (conds : List Cond)
    → (rows, replies.Rows (map (selected table all columns) (chosen conds rows))) ≡ rows_answer table rows (Select name all columns conds)
unfolding rows_answer is_rowid_taken are_rowids_used_up is_too_large
selected_rows table rows name all columns conds = refl

pub counted_rows : (table : TableDef) (rows : List Row) (name : List ℕ) (conds : List Cond)
    → (rows, replies.Count (length (chosen conds rows))) ≡ rows_answer table rows (Count name conds)
unfolding rows_answer is_rowid_taken are_rowids_used_up is_too_large
counted_rows table rows name conds = refl

pub deleted_rows : (table : TableDef) (rows : List Row) (name : List ℕ) (conds : List Cond)
    → (filter (λ (r : Row). not (is_chosen conds r.0)) rows, replies.Changed (length (chosen conds rows))) ≡ rows_answer table rows (Delete name conds)
unfolding rows_answer is_rowid_taken are_rowids_used_up is_too_large
deleted_rows table rows name conds = refl

-- a reply to which rows that stay belong
pub with_reply : {E : Type 0} (result : Result Reply E) (rows : List Row) (reply : Reply) (answer : List Row × Reply) → (rows, reply) ≡ answer → IfOk result (λ r. r ≡ reply)
    → IfOk result (λ r. (rows, r) ≡ answer)
with_reply (Ok r) rows reply answer e h = ap (λ x. (rows, x)) h ∙ e
with_reply (Err f) rows reply answer e h = tt
