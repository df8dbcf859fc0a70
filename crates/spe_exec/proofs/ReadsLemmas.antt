-- What a statement that reads answers.
use Rattle.std.proofs.Common.{◌≡◌, inl, inr, ℕ, zero, suc, ℤ, Bool, true, false, ◌&&◌, List, [], ◌∷◌, length, map, Option, Some, None, Result, Err, is_some, refl, sym, ap, ◌∙◌, arith, subst}
use Rattle.std.specs.List.{Contains}
use Rattle.std.specs.declared.vec.Vec.{Vec}
use Rattle.std.specs.declared.alloc.Global.{Global}
use Rattle.std.proofs.lemmas.Bool.{false≢true}
use Rattle.std.proofs.lemmas.List.{length-map}
use Rattle.spe_model.specs.declared.value.Value.{Value}
use Rattle.spe_model.specs.declared.catalog.Entry.{Entry}
use Rattle.spe_model.specs.declared.table.TableDef.{TableDef}
use Rattle.spe_model.specs.declared.naming.Named.{Named}
use Rattle.spe_model.specs.declared.statement.Cond.{Cond}
use Rattle.spe_model.specs.declared.statement.Statement.{Statement}
use Rattle.spe_model.specs.declared.statement.Statement.TheVariants as statements
use Rattle.spe_model.specs.declared.transaction.TxKind.{TxKind}
use Rattle.spe_model.specs.declared.transaction.TxKind.TheVariants as kinds
use Rattle.spe_model.specs.declared.reply.Refusal.{Refusal}
use Rattle.spe_model.specs.declared.reply.Refusal.TheVariants as refusals
use Rattle.spe_model.specs.declared.reply.Reply.{Reply}
use Rattle.spe_model.specs.declared.reply.Reply.TheVariants as replies
use Rattle.spe_model.specs.Conditions.{chosen}
use Rattle.spe_model.specs.Database.{Database, Row}
use Rattle.spe_model.specs.Meaning.{meaning, reply_to}
use Rattle.spe_model.specs.Naming.{meant_by}
use Rattle.spe_model.specs.Paging.{Paging}
use Rattle.spe_model.specs.Refusals.{is_rowid_taken, are_rowids_used_up, is_too_large}
use Rattle.spe_model.specs.Rows.{table_named, selected}
use Rattle.spe_model.specs.Standing.{AreTableRows}
use Rattle.spe_model.specs.Statement.{table_name, is_write, is_read_only}
use Rattle.spe_model.specs.Tree.{IsTableTree, tree_rows}
use Rattle.spe_space.specs.Found.{Answers}
use Rattle.spe_space.specs.declared.fault.TreeFault.{TreeFault}
use Rattle.spe_space.specs.declared.fault.TreeFault.TheVariants.{Space, Corrupt}
use Rattle.spe_search.specs.declared.pairs.Pair.{Pair}
use Rattle.spe_search.specs.Found.{HasDamage}
use Rattle.spe_search.specs.Leaves.{IsRead}
use Rattle.spe_search.specs.Pairs.{pair_seen}
use Rattle.spe_slow.specs.Answers.{rows_answer, table_answer, rows_refusal, answered_with}
use Rattle.spe_slow.specs.Refused.{rowless_refusal}
use Rattle.spe_slow.specs.Rows.{shown_values}
use Rattle.spe_slow.proofs.AnswersLemmas.{meaning_unnamed, meaning_named, refused_by_table, left_to_rows}
use Rattle.spe_exec.specs.declared.select.Shown.{Shown}
use Rattle.spe_exec.specs.declared.select.Shown.TheVariants.{Damage, Rows}
use Rattle.spe_exec.specs.Finding.{entry_named}
use Rattle.spe_exec.specs.Rows.{values_in, IsDamaged, Shows}
use Rattle.spe_exec.specs.Run.{stored_chosen, AreRowsOf, HoldsRows, HasRowsCause, StandsWith}
use Rattle.spe_exec.proofs.RowsLemmas.{row_is}
use Rattle.spe_exec.proofs.ChosenLemmas.{chosen_rows, same_count}
use Rattle.spe_exec.proofs.TableLemmas.{FindsTable, table_found}

-- a row that is none of the table is in no list of its rows
pub no_row : (table : TableDef) (stored : List Pair) (rows : List Row) (row : Pair) → AreTableRows table (map pair_seen stored) rows → Contains stored row → values_in table (pair_seen row) ≡ None → ⊥
no_row table [] rows row are (k, lt, is) none = omega (arith, lt)
no_row table (x ∷ xs) [] row are has none = absurd are
no_row table (x ∷ xs) (r ∷ rs) row are (zero, lt, is) none =
    let e : Some r.1 ≡ None = row_is table (pair_seen x) r are.0 ∙ (ap (λ (p : Pair). values_in table (pair_seen p)) is ∙ none) in absurd cc
no_row table (x ∷ xs) (r ∷ rs) row are (suc k, lt, is) none = no_row table xs rs row are.1 (k, omega (arith, lt), is) none

pub shown_damage : (table : TableDef) (all : Bool) (names : List Named) (stored : List Pair) (shown : Shown) (leaf : ℕ) → shown ≡ Damage leaf → Shows table all names stored shown
    → IsDamaged table stored leaf
shown_damage table all names stored shown leaf e h = subst (λ (s : Shown). Shows table all names stored s) e h

pub shown_rows : (table : TableDef) (all : Bool) (names : List Named) (stored : List Pair) (shown : Shown) (rows : Vec (List Value) Global) → shown ≡ Rows rows → Shows table all names stored shown
    → Shows table all names stored (Rows rows)
shown_rows table all names stored shown rows e h = subst (λ (s : Shown). Shows table all names stored s) e h

-- a fault of the walk, as the cause of a statement's
pub walk_cause : (X Y : Type 0) (usable : ℕ) (pages : Paging) (entry : Entry) (fault : TreeFault) → HasDamage {X = X} usable pages entry.root 20 (Err fault)
    → HasRowsCause {X = Y} usable pages entry (Err fault)
walk_cause X Y usable pages entry (Space f) h = tt
walk_cause X Y usable pages entry (Corrupt at) h = inr h

-- the leaf of a row that is none of the table
pub row_cause : (X : Type 0) (usable : ℕ) (pages : Paging) (entry : Entry) (stored slice : List Pair) (leaf : ℕ) → slice ≡ stored
    → ((row : Pair) → Contains stored row → IsRead usable pages 20 entry.root row) → IsDamaged entry.table slice leaf → HasRowsCause {X = X} usable pages entry (Err (Corrupt leaf))
row_cause X usable pages entry stored slice leaf e read bad =
    inl (record { row = bad.row; leaf_is = bad.leaf_is; read = read bad.row (subst (λ (xs : List Pair). Contains xs bad.row) e bad.inside); none = bad.none })

-- the stored rows that are chosen are those of the chosen rows
pub chosen_are : (usable : ℕ) (pages : Paging) (entry : Entry) (conds : List Cond) (stored slice : List Pair) (rows : List Row) → slice ≡ stored → (of : AreRowsOf usable pages entry rows)
    → ((height : ℕ) → IsTableTree usable pages height entry.root → map pair_seen stored ≡ stored_chosen conds (tree_rows usable pages height entry.root))
    → AreTableRows entry.table (map pair_seen slice) (chosen conds rows)
chosen_are usable pages entry conds stored slice rows e of are =
    subst (λ (xs : List (ℤ × List ℕ)). AreTableRows entry.table xs (chosen conds rows)) (sym (ap (λ (xs : List Pair). map pair_seen xs) e ∙ are of.height of.tree))
    (chosen_rows entry.table conds (tree_rows usable pages of.height entry.root) rows of.rows_are)

-- damage is found only where some row is none of the table
pub damage_not : (usable : ℕ) (pages : Paging) (entry : Entry) (conds : List Cond) (stored slice : List Pair) (rows : List Row) (leaf : ℕ) → slice ≡ stored → AreRowsOf usable pages entry rows
    → ((height : ℕ) → IsTableTree usable pages height entry.root → map pair_seen stored ≡ stored_chosen conds (tree_rows usable pages height entry.root))
    → IsDamaged entry.table slice leaf → ⊥
damage_not usable pages entry conds stored slice rows leaf e of are bad =
    no_row entry.table slice (chosen conds rows) bad.row (chosen_are usable pages entry conds stored slice rows e of are) bad.inside bad.none

-- what is shown of the chosen rows
pub select_shown : (usable : ℕ) (pages : Paging) (entry : Entry) (all : Bool) (columns : List (List ℕ)) (names slice_names : List Named) (conds : List Cond) (stored slice : List Pair) (rows : List Row)
    (shown : Vec (List Value) Global) → names ≡ map (meant_by entry.table) columns → slice_names ≡ names → slice ≡ stored → Shows entry.table all slice_names slice (Rows shown) → AreRowsOf usable pages entry rows
    → ((height : ℕ) → IsTableTree usable pages height entry.root → map pair_seen stored ≡ stored_chosen conds (tree_rows usable pages height entry.root))
    → replies.Rows shown.items ≡ replies.Rows (map (selected entry.table all columns) (chosen conds rows))
select_shown usable pages entry all columns names slice_names conds stored slice rows shown n s e shows of are =
    ap replies.Rows (subst (λ (ns : List Named). shown.items ≡ map (shown_values all ns) (chosen conds rows)) (s ∙ n)
    (shows (chosen conds rows) (chosen_are usable pages entry conds stored slice rows e of are)))

pub count_shown : (usable : ℕ) (pages : Paging) (entry : Entry) (conds : List Cond) (stored slice : List Pair) (rows : List Row) (count : ℕ) → count ≡ length slice → slice ≡ stored → AreRowsOf usable pages entry rows
    → ((height : ℕ) → IsTableTree usable pages height entry.root → map pair_seen stored ≡ stored_chosen conds (tree_rows usable pages height entry.root))
    → replies.Count count ≡ replies.Count (length (chosen conds rows))
count_shown usable pages entry conds stored slice rows count c e of are =
    ap replies.Count (c ∙ (sym (length-map slice pair_seen)
    ∙ same_count entry.table (map pair_seen slice) (chosen conds rows) (chosen_are usable pages entry conds stored slice rows e of are)))

pub open_if : (table : TableDef) (s : Statement) → rowless_refusal table s ≡ None → is_some table.closed ≡ false
open_if table s e = go (is_some table.closed) refl e
  where
    go : (b : Bool) → is_some table.closed ≡ b → rowless_refusal table s ≡ None → is_some table.closed ≡ false
    go false a h = a
    go true a h = absurd (let k = rw a at h in cc)

-- rows refuse no statement that reads
no_refusal : (table : TableDef) (rows : List Row) (s : Statement) → is_write s ≡ false → rows_refusal table rows s ≡ None
unfolding is_rowid_taken are_rowids_used_up is_too_large
no_refusal table rows (statements.Select name all columns conds) h = refl
no_refusal table rows (statements.Count name conds) h = refl
no_refusal table rows (statements.Insert name listed columns values) h = absurd (false≢true (sym h))
no_refusal table rows (statements.Update name sets conds) h = absurd (false≢true (sym h))
no_refusal table rows (statements.Delete name conds) h = absurd (false≢true (sym h))

pub answer_open : (usable : ℕ) (pages : Paging) (entry : Entry) (s : Statement) (rows : List Row) (result : Result Reply TreeFault) → is_write s ≡ false
    → rowless_refusal entry.table s ≡ None → HoldsRows usable pages entry rows → (AreRowsOf usable pages entry rows → Answers (λ r. r) (reply_to entry.table rows s) result)
    → Answers (λ r. r) (table_answer entry.table rows s).1 result
unfolding rows_answer
answer_open usable pages entry s rows result reads none holds answer =
    let of : AreRowsOf usable pages entry rows = rw (open_if entry.table s none) at holds in
    let same : reply_to entry.table rows s ≡ (table_answer entry.table rows s).1 =
    ap (λ o. (answered_with o entry.table rows s).1) (sym (no_refusal entry.table rows s reads)) ∙ ap (λ (x : List Row × Reply). x.1) (left_to_rows entry.table rows s none) in
    subst (λ (r : Reply). Answers (λ r. r) r result) same (answer of)

pub answer_refused : (table : TableDef) (s : Statement) (rows : List Row) (refusal : Refusal) → rowless_refusal table s ≡ Some refusal
    → replies.Refused refusal ≡ (table_answer table rows s).1
answer_refused table s rows refusal e = ap (λ (x : List Row × Reply). x.1) (refused_by_table table rows s refusal e)

never_blocked : (kind : TxKind) (s : Statement) → is_write s ≡ false → (is_read_only kind && is_write s) ≡ false
never_blocked kinds.ReadWrite s h = refl
never_blocked kinds.ReadOnly s h = h

-- the table of the name answers
pub run_named : (usable count : ℕ) (pages : Paging) (catalog : List Entry) (db : Database) (kind : TxKind) (s : Statement) (name : List ℕ) (entry : Entry) (result : Result Reply TreeFault) → is_write s ≡ false
    → name ≡ table_name s → Some entry ≡ entry_named name catalog → StandsWith usable count pages catalog db
    → ((rows : List Row) → HoldsRows usable pages entry rows → Answers (λ r. r) (table_answer entry.table rows s).1 result)
    → Answers (λ r. r) (meaning kind db s).1 result
run_named usable count pages catalog db kind s name entry result reads n f stands answer =
    let e : entry_named (table_name s) catalog ≡ Some entry = rw (← n) (sym f) in
    let found : FindsTable usable pages (Some entry) (table_named (table_name s) db) =
    subst (λ (o : Option Entry). FindsTable usable pages o (table_named (table_name s) db)) e (table_found usable count pages catalog db (table_name s) stands) in
    let same : (table_answer entry.table found.0 s).1 ≡ (meaning kind db s).1 =
    ap (λ (x : Database × Reply). x.1) (sym (meaning_named kind db s entry.table found.0 (never_blocked kind s reads) found.1)) in
    subst (λ (r : Reply). Answers (λ r. r) r result) same (answer found.0 found.2)

pub run_unnamed : (usable count : ℕ) (pages : Paging) (catalog : List Entry) (db : Database) (kind : TxKind) (s : Statement) (name : List ℕ) → is_write s ≡ false
    → name ≡ table_name s → None ≡ entry_named name catalog → StandsWith usable count pages catalog db → replies.Refused refusals.NoTable ≡ (meaning kind db s).1
run_unnamed usable count pages catalog db kind s name reads n f stands =
    let e : entry_named (table_name s) catalog ≡ None = rw (← n) (sym f) in
    let found : FindsTable usable pages None (table_named (table_name s) db) =
    subst (λ (o : Option Entry). FindsTable usable pages o (table_named (table_name s) db)) e (table_found usable count pages catalog db (table_name s) stands) in
    ap (λ (x : Database × Reply). x.1) (sym (meaning_unnamed kind db s (never_blocked kind s reads) found))

-- what the two statements that read answer
pub read_select : (table : TableDef) (rows : List Row) (s : Statement) (name : List ℕ) (all : Bool) (columns raw : List (List ℕ)) (conds some : List Cond) (result : Result Reply TreeFault)
    → s ≡ statements.Select name all columns conds → raw ≡ columns → some ≡ conds → Answers (λ r. r) (replies.Rows (map (selected table all raw) (chosen some rows))) result
    → Answers (λ r. r) (reply_to table rows s) result
read_select table rows s name all columns raw conds some result e f g h = rw (e, ← f, ← g) h

pub read_count : (table : TableDef) (rows : List Row) (s : Statement) (name : List ℕ) (conds some : List Cond) (result : Result Reply TreeFault)
    → s ≡ statements.Count name conds → some ≡ conds → Answers (λ r. r) (replies.Count (length (chosen some rows))) result → Answers (λ r. r) (reply_to table rows s) result
read_count table rows s name conds some result e g h = rw (e, ← g) h
