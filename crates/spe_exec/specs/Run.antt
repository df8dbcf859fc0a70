-- What a statement that reads answers, whatever the pages below a space are, as long as they agree with all that was given.
use Rattle.std.specs.Prelude.{◌≡◌, ◌⊎◌, ℕ, ℤ, List, [], filter, map, Option, Some, None, Result, Ok, Err, is_some}
use Rattle.spe_model.specs.declared.catalog.Entry.{Entry}
use Rattle.spe_model.specs.declared.reply.Reply.{Reply}
use Rattle.spe_model.specs.declared.statement.Cond.{Cond}
use Rattle.spe_model.specs.declared.statement.Statement.{Statement}
use Rattle.spe_model.specs.declared.transaction.TxKind.{TxKind}
use Rattle.spe_model.specs.Conditions.{is_chosen}
use Rattle.spe_model.specs.Database.{Database, Row}
use Rattle.spe_model.specs.Meaning.{meaning}
use Rattle.spe_model.specs.Paging.{Paging, Agrees}
use Rattle.spe_model.specs.Schema.{catalog_of, is_index_page}
use Rattle.spe_model.specs.Standing.{StandsFor, Whether, AreTableRows}
use Rattle.spe_model.specs.Statement.{table_name}
use Rattle.spe_model.specs.Tree.{IsTableTree, tree_rows}
use Rattle.spe_space.specs.Calls.{sight}
use Rattle.spe_space.specs.Found.{Answers}
use Rattle.spe_space.specs.declared.pages.Pages.{Ghosts}
use Rattle.spe_space.specs.declared.fault.TreeFault.{TreeFault}
use Rattle.spe_space.specs.declared.fault.TreeFault.TheVariants.{Space, Corrupt}
use Rattle.spe_search.specs.declared.pairs.Pair.{Pair}
use Rattle.spe_search.specs.Found.{HasDamage}
use Rattle.spe_search.specs.Leaves.{IsRead}
use Rattle.spe_search.specs.Pairs.{pair_seen}
use Rattle.spe_slow.specs.Answers.{table_answer}
use Rattle.spe_exec.specs.Finding.{entry_named}
use Rattle.spe_exec.specs.Rows.{values_in}

-- the stored rows that conditions choose
abbrev pub stored_chosen : List Cond → List (ℤ × List ℕ) → List (ℤ × List ℕ)
stored_chosen conds stored = filter (λ (r : ℤ × List ℕ). is_chosen conds r.0) stored

abbrev pub ReadsChosen : {P : Type 0} (g : Ghosts P) (early late : P) (root : ℕ) (conds : List Cond) (result : Result (List Pair) TreeFault) → Type 0
ReadsChosen g early late root conds result =
    (pages : Paging) → Agrees pages (g.seen late) → (height : ℕ) → IsTableTree (g.used early) (sight g early pages) height root
    → Answers (map pair_seen) (stored_chosen conds (tree_rows (g.used early) (sight g early pages) height root)) result

-- the rows of a table, as its tree has them
pub record AreRowsOf (usable : ℕ) (pages : Paging) (entry : Entry) (rows : List Row) : Type 0 where
  pub height : ℕ
  pub tree : IsTableTree usable pages height entry.root
  pub rows_are : AreTableRows entry.table (tree_rows usable pages height entry.root) rows

-- a closed table has none that count
abbrev pub HoldsRows : (usable : ℕ) (pages : Paging) (entry : Entry) (rows : List Row) → Type 0
HoldsRows usable pages entry rows = Whether (is_some entry.table.closed) (rows ≡ []) (AreRowsOf usable pages entry rows)

-- the answer is what the rows of the table give
abbrev pub AnswersRows : {P : Type 0} (g : Ghosts P) (early late : P) (entry : Entry) (reply : List Row → Reply) (result : Result Reply TreeFault) → Type 0
AnswersRows g early late entry reply result =
    (pages : Paging) → Agrees pages (g.seen late) → (rows : List Row) → AreRowsOf (g.used early) (sight g early pages) entry rows → Answers (λ r. r) (reply rows) result

-- the answer is what the table gives, open or closed
abbrev pub AnswersTable : {P : Type 0} (g : Ghosts P) (early late : P) (entry : Entry) (s : Statement) (result : Result Reply TreeFault) → Type 0
AnswersTable g early late entry s result =
    (pages : Paging) → Agrees pages (g.seen late) → (rows : List Row) → HoldsRows (g.used early) (sight g early pages) entry rows
    → Answers (λ r. r) (table_answer entry.table rows s).1 result

-- a row, as the leaf of this number shows it, has a record that is damaged, or fields for which the table has no columns
pub record HasBadRow (usable : ℕ) (pages : Paging) (entry : Entry) (at : ℕ) : Type 0 where
  pub row : Pair
  pub leaf_is : row.leaf ≡ at
  pub read : IsRead usable pages 20 entry.root row
  pub none : values_in entry.table (pair_seen row) ≡ None

abbrev pub HasRowsCause : {X : Type 0} (usable : ℕ) (pages : Paging) (entry : Entry) → Result X TreeFault → Type 0
HasRowsCause usable pages entry (Ok x) = Unit {0}
HasRowsCause usable pages entry (Err (Space f)) = Unit {0}
HasRowsCause {X} usable pages entry (Err (Corrupt at)) = HasBadRow usable pages entry at ⊎ HasDamage {X = X} usable pages entry.root 20 (Err (Corrupt at))

-- Corrupt comes only for the leaf of such a row, or as of a walk over the table's tree
abbrev pub NamesRows : {P X : Type 0} (g : Ghosts P) (early late : P) (entry : Entry) (result : Result X TreeFault) → Type 0
NamesRows g early late entry result = (pages : Paging) → Agrees pages (g.seen late) → HasRowsCause (g.used early) (sight g early pages) entry result

abbrev pub HasCauseIn : {X : Type 0} (usable : ℕ) (pages : Paging) → Option Entry → Result X TreeFault → Type 0
HasCauseIn usable pages None (Ok x) = Unit {0}
HasCauseIn usable pages None (Err (Space f)) = Unit {0}
HasCauseIn usable pages None (Err (Corrupt at)) = ⊥
HasCauseIn usable pages (Some entry) result = HasRowsCause usable pages entry result

-- Corrupt comes only so in the tree of the table that the statement names
abbrev pub NamesTable : {P X : Type 0} (g : Ghosts P) (early late : P) (catalog : List Entry) (s : Statement) (result : Result X TreeFault) → Type 0
NamesTable g early late catalog s result =
    (pages : Paging) → Agrees pages (g.seen late) → HasCauseIn (g.used early) (sight g early pages) (entry_named (table_name s) catalog) result

-- pages that stand for a database, and have this catalog
pub record StandsWith (usable count : ℕ) (pages : Paging) (catalog : List Entry) (db : Database) : Type 0 where
  pub stands : StandsFor usable count pages db
  pub catalog_is : catalog ≡ catalog_of (is_index_page pages) stands.rows

-- the reply is what the statement means on the database for which the pages stand
abbrev pub GivesMeaning : {P : Type 0} (g : Ghosts P) (early late : P) (catalog : List Entry) (kind : TxKind) (s : Statement) (result : Result Reply TreeFault) → Type 0
GivesMeaning g early late catalog kind s result =
    (pages : Paging) → Agrees pages (g.seen late) → (count : ℕ) (db : Database) → StandsWith (g.used early) count (sight g early pages) catalog db
    → Answers (λ r. r) (meaning kind db s).1 result
