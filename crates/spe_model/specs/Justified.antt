-- Replies that follow from the pages that were read and written.
use Rattle.std.specs.Prelude.{◌≡◌, ℕ, List}
use Rattle.spe_model.specs.declared.catalog.Entry.{Entry}
use Rattle.spe_model.specs.declared.reply.Reply.{Reply}
use Rattle.spe_model.specs.declared.statement.Statement.{Statement}
use Rattle.spe_model.specs.declared.transaction.TxKind.{TxKind}
use Rattle.spe_model.specs.Big.{u32_at}
use Rattle.spe_model.specs.Database.{Database}
use Rattle.spe_model.specs.FreeList.{first_trunks}
use Rattle.spe_model.specs.Meaning.{replies_from, result_from}
use Rattle.spe_model.specs.Paging.{Paging, Given, PageMap, Agrees, lay}
use Rattle.spe_model.specs.Schema.{catalog_of, is_index_page}
use Rattle.spe_model.specs.Served.{Served, usable_in}

-- What was read once, before all transactions: how many bytes of each page are used, the tables, and the first trunks of
-- the free lists.
pub record Opening : Type 0 where
  pub usable : ℕ
  pub catalog : List Entry
  pub trunks : List ℕ

-- the pages are served for a database, and have what was read at the opening
pub record ServedSince (opening : Opening) (count : ℕ) (pages : Paging) (db : Database) : Type 0 where
  pub served : Served count pages db
  pub usable : usable_in served.header ≡ opening.usable
  pub catalog : catalog_of (is_index_page pages) served.stands.rows ≡ opening.catalog
  pub trunks : first_trunks pages (u32_at (pages 1) 32) ≡ opening.trunks

-- What a transaction asked and was answered so far.
pub record Asked : Type 0 where
  pub kind : TxKind
  pub statements : List Statement
  pub replies : List Reply

-- The replies are those of the database for which the pages are served, whatever they are, as long as they agree with what
-- was read; and with what was written laid over them they are served for the database that the statements leave.
pub record Justified (opening : Opening) (asked : Asked) (seen : Given) (written : PageMap) : Type 0 where
  pub replied : (count : ℕ) (pages : Paging) (db : Database) → ServedSince opening count pages db → Agrees pages seen
      → asked.replies ≡ replies_from asked.kind db asked.statements
  pub left : (count : ℕ) (pages : Paging) (db : Database) → ServedSince opening count pages db → Agrees pages seen
      → ServedSince opening (u32_at (lay written pages 1) 28) (lay written pages) (result_from asked.kind db asked.statements)
