-- What a statement does to served pages, whatever the pages below a space are, as long as they agree with what was given.
use Rattle.std.specs.Prelude.{◌≡◌, false, List, Some, Result, IfErr, IfOk}
use Rattle.spe_model.specs.declared.catalog.Entry.{Entry}
use Rattle.spe_model.specs.declared.reply.Reply.{Reply}
use Rattle.spe_model.specs.declared.statement.Statement.{Statement}
use Rattle.spe_model.specs.declared.transaction.TxKind.{TxKind}
use Rattle.spe_model.specs.Database.{Database}
use Rattle.spe_model.specs.Justified.{Opening}
use Rattle.spe_model.specs.Meaning.{meaning}
use Rattle.spe_model.specs.Paging.{Agrees, Paging}
use Rattle.spe_model.specs.Rows.{written}
use Rattle.spe_model.specs.Standing.{pages_of_tree}
use Rattle.spe_model.specs.Statement.{table_name}
use Rattle.spe_space.specs.declared.fault.TreeFault.{TreeFault}
use Rattle.spe_space.specs.declared.pages.Pages.{Ghosts}
use Rattle.spe_space.specs.Calls.{sight}
use Rattle.spe_space.specs.Front.{number_in}
use Rattle.spe_frame.specs.Held.{Spares}
use Rattle.spe_served.specs.Change.{IsServed, TableAlone}
use Rattle.spe_served.specs.Lists.{ListsStand}
use Rattle.spe_exec.specs.Finding.{entry_named}
use Rattle.spe_exec.specs.Inserts.{IsSound}
use Rattle.spe_exec.specs.Updates.{pages_of_written}

-- whatever the pages are below the space, as long as they agree with what was given and are served for a database with this
-- catalog
abbrev pub WhereServed : {P : Type 0} (g : Ghosts P) (old new : P) (catalog : List Entry) → (Opening → Paging → Database → Type 0) → Type 0
WhereServed g old new catalog What =
    (opening : Opening) (pages : Paging) (db : Database) → Agrees pages (g.seen new) → ListsStand g → IsServed g opening old pages db → opening.catalog ≡ catalog
    → What opening pages db

-- the reply is what the statement means, and the pages are served for the database that it means
pub record Means {P : Type 0} (g : Ghosts P) (new : P) (opening : Opening) (pages : Paging) (meant : Database × Reply) (reply : Reply) : Type 0 where
  pub reply_is : reply ≡ meant.1
  pub served : IsServed g opening new pages meant.0

abbrev pub DoesMeaning : {P : Type 0} (g : Ghosts P) (old new : P) (catalog : List Entry) (kind : TxKind) (s : Statement) (result : Result Reply TreeFault) → Type 0
DoesMeaning g old new catalog kind s result = WhereServed g old new catalog (λ opening pages db. IfOk result (Means g new opening pages (meaning kind db s)))

-- All that is in use apart from the tree of the table that a statement names stays, and for each row that it writes at most
-- 128 pages are handed out, and those of the chain of the row's record.
abbrev pub SparesStatement : {P : Type 0} (g : Ghosts P) (old new : P) (catalog : List Entry) (s : Statement) → Type 0
SparesStatement g old new catalog s = WhereServed g old new catalog (λ opening pages db.
    (entry : Entry) → entry_named (table_name s) catalog ≡ Some entry → (alone : TableAlone g opening old pages db (table_name s) entry)
    → Spares g old new pages (pages_of_tree (g.used old) (sight g old pages) alone.tree) (pages_of_written (g.used old) entry.table (written entry.table alone.rows s)))

-- a fault is a sound one
abbrev pub IsLikelyWrite : {P : Type 0} (g : Ghosts P) (old new : P) (catalog : List Entry) (result : Result Reply TreeFault) → Type 0
IsLikelyWrite g old new catalog result = WhereServed g old new catalog (λ opening pages db.
    g.sealed old ≡ false → IfErr result (IsSound g old new (number_in (sight g new pages))))
