-- What a whole journal reads as.
use Rattle.std.specs.Prelude.{◌≡◌, ◌≢◌, ℕ, List, length, map, ◌==◌, if◌then◌else◌}
use Rattle.spe_model.specs.Journal.{Saved, has_head, head_page_size, hot_records}
use Rattle.spe_journal.specs.declared.text.Record.{Record}
use Rattle.spe_journal.specs.declared.text.JournalText.{JournalText}
use Rattle.spe_journal.specs.declared.text.JournalText.TheVariants.{Cold, OtherSize, Hot}

-- a saved page as a record that owns its content
abbrev pub record_of : Saved → Record
record_of saved = record { page = saved.page; content = saved.content }

-- a record names a page and has one page of content
abbrev pub IsWhole : ℕ → Record → Type 0
IsWhole page_size r = (r.page ≢ 0) × (length r.content ≡ page_size)

-- what a journal with a head reads as, which names a page size where another may be wanted
abbrev pub text_named : (wanted named : ℕ) → List Saved → JournalText
text_named wanted named saved = if named == wanted then Hot (map record_of saved) else OtherSize named

-- what a journal reads as to a database of this page size
unfoldable pub text_of : ℕ → List ℕ → JournalText
text_of page_size journal =
    if has_head journal then text_named page_size (head_page_size journal) (hot_records page_size journal) else Cold
