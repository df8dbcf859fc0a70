-- How the replies of a transaction stay justified, one statement after the other.
use Rattle.std.specs.Prelude.{◌≡◌, ℕ, false, [], ◌∷◌, ◌++◌, None, Ok}
use Rattle.spe_model.specs.declared.reply.Reply.{Reply}
use Rattle.spe_model.specs.declared.statement.Statement.{Statement}
use Rattle.spe_model.specs.declared.transaction.TxKind.{TxKind}
use Rattle.spe_model.specs.Justified.{Opening, Asked, Justified, ServedSince}
use Rattle.spe_model.specs.Database.{Database}
use Rattle.spe_model.specs.Meaning.{replies_from, result_from}
use Rattle.spe_model.specs.Paging.{Agrees, Given, PageMap, Paging}
use Rattle.spe_model.specs.Statement.{is_write}
use Rattle.spe_space.specs.Calls.{Keeps, Reads}
use Rattle.spe_space.specs.declared.pages.Pages.{Ghosts}
use Rattle.spe_served.specs.Change.{IsServed}
use Rattle.spe_served.specs.Lists.{ListsStand}
use Rattle.spe_exec.specs.Run.{GivesMeaning}
use Rattle.spe_exec.specs.Writes.{DoesMeaning}

abbrev pub asked_nothing : TxKind → Asked
asked_nothing kind = record { kind = kind; statements = []; replies = [] }

-- one statement more, and the reply to it
abbrev pub asked_more : Asked → Statement → Reply → Asked
asked_more asked s reply = record { kind = asked.kind; statements = asked.statements ++ s ∷ []; replies = asked.replies ++ reply ∷ [] }

-- where nothing is asked and nothing was put, nothing needs to be given
abbrev pub JustifiedNone : Type 0
JustifiedNone = (opening : Opening) (kind : TxKind) (seen : Given) (written : PageMap) → ((n : ℕ) → written n ≡ None) → Justified opening (asked_nothing kind) seen written

-- Where the replies so far are justified by what a space was given and what was put there, and `run`, given the catalog of
-- the opening, then replies to one statement more, which reads, the replies with this one are justified by what the space is
-- given and what is put there now.
abbrev pub JustifiedMore : {P : Type 0} → Ghosts P → Type 0
JustifiedMore {P} g =
    (opening : Opening) (asked : Asked) (early late : P) (s : Statement) (reply : Reply) → g.used early ≡ opening.usable → is_write s ≡ false
    → Justified opening asked (g.seen early) (g.laid early)
    → GivesMeaning g early late opening.catalog asked.kind s (Ok reply) → Reads g early late
    → Justified opening (asked_more asked s reply) (g.seen late) (g.laid late)

-- The replies so far are justified in a space, one that writes: they are those of the database for which the pages below it
-- were served, whatever they are, as long as they agree with what was given; and as the space shows them now, they are
-- served for the database that the statements leave, and ready for calls that write.
pub record JustifiedIn {P : Type 0} (g : Ghosts P) (opening : Opening) (asked : Asked) (s : P) : Type 0 where
  pub replied : (count : ℕ) (pages : Paging) (db : Database) → ServedSince opening count pages db → Agrees pages (g.seen s)
      → asked.replies ≡ replies_from asked.kind db asked.statements
  pub served : (count : ℕ) (pages : Paging) (db : Database) → ServedSince opening count pages db → Agrees pages (g.seen s)
      → IsServed g opening s pages (result_from asked.kind db asked.statements)

-- such replies are justified by what the space was given and what was put there
abbrev pub JustifiedHere : {P : Type 0} → Ghosts P → Type 0
JustifiedHere {P} g = (opening : Opening) (asked : Asked) (s : P) → JustifiedIn g opening asked s → Justified opening asked (g.seen s) (g.laid s)

-- and where `run` then replies to one statement more, one that writes or one that reads, they are so with this reply
abbrev pub JustifiedRun : {P : Type 0} → Ghosts P → Type 0
JustifiedRun {P} g =
    (opening : Opening) (asked : Asked) (early late : P) (s : Statement) (reply : Reply) → ListsStand g → JustifiedIn g opening asked early
    → DoesMeaning g early late opening.catalog asked.kind s (Ok reply) → Keeps g early late
    → JustifiedIn g opening (asked_more asked s reply) late
