-- The statements of a transaction that were carried out, at a bound `P: Pages`.
use Rattle.std.specs.Prelude.{◌≡◌, ℕ, List, ◌++◌}
use Rattle.spe_model.specs.declared.catalog.Entry.{Entry}
use Rattle.spe_model.specs.declared.reply.Reply.{Reply}
use Rattle.spe_model.specs.declared.statement.Statement.{Statement}
use Rattle.spe_model.specs.declared.transaction.TxKind.{TxKind}
use Rattle.spe_model.specs.Database.{Database}
use Rattle.spe_model.specs.Justified.{Opening, ServedSince}
use Rattle.spe_model.specs.Meaning.{replies_from}
use Rattle.spe_model.specs.Paging.{Agrees, Paging}
use Rattle.spe_space.specs.declared.pages.Pages.{Ghosts}
use Rattle.spe_exec.specs.Justifying.{JustifiedIn, asked_nothing}

-- whatever was read at the opening, as long as it is this catalog, and the pages then served are served still, with nothing
-- asked
abbrev pub WhereBegun : {P : Type 0} (g : Ghosts P) (s : P) (catalog : List Entry) (kind : TxKind) → (Opening → Type 0) → Type 0
WhereBegun g s catalog kind What = (opening : Opening) → opening.catalog ≡ catalog → JustifiedIn g opening (asked_nothing kind) s → What opening

-- Some first statements were carried out, and these are left.
pub record AreLeft {P : Type 0} (g : Ghosts P) (opening : Opening) (kind : TxKind) (statements left : List Statement) (replies : List Reply) (s : P) : Type 0 where
  pub done : List Statement
  pub split : statements ≡ done ++ left
  pub right : JustifiedIn g opening (record { kind = kind; statements = done; replies = replies }) s

-- The replies are those to some first statements, on the database for which the pages are served, whatever they are, as
-- long as they agree with what was given.
pub record IsFront {P : Type 0} (g : Ghosts P) (opening : Opening) (kind : TxKind) (statements : List Statement) (replies : List Reply) (s : P) : Type 0 where
  pub done : List Statement
  pub left : List Statement
  pub split : statements ≡ done ++ left
  pub replied : (count : ℕ) (pages : Paging) (db : Database) → ServedSince opening count pages db → Agrees pages (g.seen s)
      → replies ≡ replies_from kind db done
