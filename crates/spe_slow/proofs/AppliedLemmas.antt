-- Statements on tables whose rows are in maps.
use Rattle.std.proofs.Common.{◌≡◌, ℕ, false, ◌&&◌, List, length, set, get_or, sym, ap, ◌∙◌, Some, Bool, true, refl, None, Option}
use Rattle.std.specs.Prelude.{ℤ, position, Result, Ok, Err, IfOk, OnErr, if◌then◌else◌}
use Rattle.std.specs.Option.{option_map_or}
use Rattle.std.specs.BTreeMap.{BTreeMap}
use Rattle.std.proofs.Math.ListN.{get_or-map}
use Rattle.std.proofs.Math.Seq.{map-set_same}
use Rattle.std.proofs.lemmas.List.{length-map, map-set}
use Rattle.std.proofs.lemmas.List.Quantifiers.{position-Some}
use Rattle.spe_model.specs.declared.value.Value.{Value}
use Rattle.spe_model.specs.declared.table.TableDef.{TableDef}
use Rattle.spe_model.specs.declared.statement.Statement.{Statement}
use Rattle.spe_model.specs.declared.transaction.TxKind.{TxKind}
use Rattle.spe_model.specs.declared.reply.Refusal.{Refusal}
use Rattle.spe_model.specs.declared.reply.Refusal.TheVariants.{ReadOnly, NoTable}
use Rattle.spe_model.specs.declared.reply.Reply.{Reply}
use Rattle.spe_model.specs.declared.reply.Reply.TheVariants as replies
use Rattle.spe_model.specs.Database.{Database, Row}
use Rattle.spe_model.specs.Statement.{table_name, is_write, is_read_only}
use Rattle.spe_model.specs.Rows.{table_named, with_rows}
use Rattle.spe_model.specs.Meaning.{meaning}
use Rattle.spe_slow.specs.Answers.{table_answer}
use Rattle.spe_slow.specs.Tables.{is_table, table_for, tables_from, held_rows}
use Rattle.spe_slow.proofs.TablesLemmas.{named_at, with_at, unnamed_at}
use Rattle.spe_slow.proofs.AnswersLemmas.{meaning_blocked, meaning_unnamed, meaning_named}

abbrev Held : Type 0
Held = BTreeMap ℤ (List Value)

named_here : (s : Statement) (tables : List TableDef) (maps : List Held) (i : ℕ) (table : TableDef) (m : Held) → length maps ≡ length tables
    → position (is_table (table_name s)) tables ≡ Some i → table ≡ get_or tables i table → m ≡ get_or maps i m
    → table_named (table_name s) (tables_from 1 tables (held_rows maps)) ≡ Some (table, m.entries)
named_here s tables maps i table m same place t e =
    let at = position-Some (is_table (table_name s)) tables i table place in
    named_at (table_name s) 1 tables (held_rows maps) i table m.entries (length-map maps _ ∙ same) at.0 at.1 at.2
    ∙ ap (λ (x : TableDef). Some (x, get_or (held_rows maps) i m.entries)) (sym t)
    ∙ ap (λ (rows : List Row). Some (table, rows)) (get_or-map (λ (x : Held). x.entries) maps i m ∙ ap (λ (x : Held). x.entries) (sym e))

put_here : (s : Statement) (tables : List TableDef) (maps : List Held) (i : ℕ) (table : TableDef) (new : Held) → length maps ≡ length tables
    → position (is_table (table_name s)) tables ≡ Some i
    → tables_from 1 tables (held_rows (set maps i new)) ≡ with_rows (table_name s) new.entries (tables_from 1 tables (held_rows maps))
put_here s tables maps i table new same place =
    let at = position-Some (is_table (table_name s)) tables i table place in
    ap (tables_from 1 tables) (map-set (λ (x : Held). x.entries) maps i new)
    ∙ sym (with_at (table_name s) new.entries 1 tables (held_rows maps) i table (length-map maps _ ∙ same) at.0 at.1 at.2)

-- the table of a place answers
pub applied : {E : Type 0} (result : Result Reply E) (kind : TxKind) (s : Statement) (tables : List TableDef) (maps : List Held) (i : ℕ) (table : TableDef) (m new : Held)
    → length maps ≡ length tables → position (is_table (table_name s)) tables ≡ Some i → table ≡ get_or tables i table → m ≡ get_or maps i m
    → (is_read_only kind && is_write s) ≡ false → IfOk result (λ reply. (new.entries, reply) ≡ table_answer table m.entries s)
    → IfOk result (λ reply. (tables_from 1 tables (held_rows (set maps i new)), reply) ≡ meaning kind (tables_from 1 tables (held_rows maps)) s)
applied (Err f) kind s tables maps i table m new same place t e free h = tt
applied (Ok reply) kind s tables maps i table m new same place t e free h =
    let db = tables_from 1 tables (held_rows maps) in
    ap (λ (d : Database). (d, reply)) (put_here s tables maps i table new same place)
    ∙ ap (λ (a : List Row × Reply). (with_rows (table_name s) a.0 db, a.1)) h
    ∙ sym (meaning_named kind db s table m.entries free (named_here s tables maps i table m same place t e))

pub applied_not : {E : Type 0} (result : Result Reply E) (maps : List Held) (i : ℕ) (m new : Held) → m ≡ get_or maps i m → OnErr result (new.entries ≡ m.entries)
    → OnErr result (held_rows (set maps i new) ≡ held_rows maps)
applied_not (Ok reply) maps i m new e h = tt
applied_not (Err f) maps i m new e h = map-set_same (λ (x : Held). x.entries) maps i new m (h ∙ ap (λ (x : Held). x.entries) e)

-- by whether a read-only transaction would write, and by the place of the table
abbrev for_by : Bool → Option ℕ → Result ℕ Refusal
for_by blocked place = if blocked then Err ReadOnly else option_map_or (λ i. Ok i) place (Err NoTable)

placed_by : (blocked : Bool) (place : Option ℕ) (i : ℕ) → for_by blocked place ≡ Ok i → (blocked ≡ false) × (place ≡ Some i)
placed_by true place i e = absurd cc
placed_by false None i e = absurd cc
placed_by false (Some j) i e = (refl, cc)

pub placed : (kind : TxKind) (tables : List TableDef) (s : Statement) (i : ℕ) → table_for kind tables s ≡ Ok i
    → ((is_read_only kind && is_write s) ≡ false) × (position (is_table (table_name s)) tables ≡ Some i)
placed kind tables s i e = placed_by (is_read_only kind && is_write s) (position (is_table (table_name s)) tables) i e

refused_by : (kind : TxKind) (tables : List TableDef) (rows : List (List Row)) (s : Statement) (refusal : Refusal) (blocked : Bool) (place : Option ℕ)
    → (is_read_only kind && is_write s) ≡ blocked → position (is_table (table_name s)) tables ≡ place → for_by blocked place ≡ Err refusal
    → (tables_from 1 tables rows, replies.Refused refusal) ≡ meaning kind (tables_from 1 tables rows) s
refused_by kind tables rows s refusal true place b p e =
    let same : refusal ≡ ReadOnly = cc in
    ap (λ r. (tables_from 1 tables rows, replies.Refused r)) same ∙ sym (meaning_blocked kind (tables_from 1 tables rows) s b)
refused_by kind tables rows s refusal false None b p e =
    let same : refusal ≡ NoTable = cc in
    ap (λ r. (tables_from 1 tables rows, replies.Refused r)) same ∙ sym (meaning_unnamed kind (tables_from 1 tables rows) s b (unnamed_at (table_name s) 1 tables rows p))
refused_by kind tables rows s refusal false (Some i) b p e = absurd cc

pub refused_before : (kind : TxKind) (tables : List TableDef) (rows : List (List Row)) (s : Statement) (refusal : Refusal) → table_for kind tables s ≡ Err refusal
    → (tables_from 1 tables rows, replies.Refused refusal) ≡ meaning kind (tables_from 1 tables rows) s
refused_before kind tables rows s refusal e = refused_by kind tables rows s refusal (is_read_only kind && is_write s) (position (is_table (table_name s)) tables) refl refl e
