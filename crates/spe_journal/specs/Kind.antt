-- What the head of a journal says.
use Rattle.std.specs.Prelude.{ℕ, List, [], ◌==◌, if◌then◌else◌}
use Rattle.spe_model.specs.Big.{u32_at}
use Rattle.spe_model.specs.Journal.{Saved, has_head, head_page_size}
use Rattle.spe_journal.specs.Saved.{saved_in}
use Rattle.spe_journal.specs.declared.head.JournalKind.{JournalKind}
use Rattle.spe_journal.specs.declared.head.JournalKind.TheVariants.{Cold, OtherSize, Hot}

-- what a head says that names a page size and a nonce, where another page size may be wanted
abbrev pub kind_named : (wanted named nonce : ℕ) → JournalKind
kind_named wanted named nonce = if named == wanted then Hot nonce else OtherSize named

-- what the head of a journal says to a database of this page size
unfoldable pub kind_of : ℕ → List ℕ → JournalKind
kind_of page_size journal =
    if has_head journal then kind_named page_size (head_page_size journal) (u32_at journal 12) else Cold

-- the records in the bytes behind a head that says this
abbrev pub saved_under : JournalKind → ℕ → List ℕ → List Saved
saved_under (Hot nonce) page_size bytes = saved_in nonce page_size bytes
saved_under kind page_size bytes = []
