-- The heads of journals, and the page sizes that they name.
use Rattle.std.specs.Prelude.{◌≡◌, ℕ, Bool, true, false, not, ◌&&◌, ◌==◌, List, drop, length, slice_get, Option, Some, None}
use Rattle.std.specs.List.{find}
use Rattle.spe_model.specs.Content.{Content}
use Rattle.spe_model.specs.Journal.{has_head, head_page_size, hot_records, numbers_from}
use Rattle.spe_model.specs.Recovery.{journal_of}
use Rattle.spe_journal.specs.Kind.{kind_of, saved_under}
use Rattle.spe_journal.specs.declared.head.JournalKind.{JournalKind}
use Rattle.spe_journal.specs.declared.head.JournalKind.TheVariants as kinds
use Rattle.spe_recover.specs.declared.heads.JournalHead.{JournalHead}
use Rattle.spe_recover.specs.declared.heads.OtherSize.{OtherSize}

-- what a journal says to a database of this page size, and how many bytes it has
pub record IsHead (content : Content) (page_size id : ℕ) (head : JournalHead) : Type 0 where
  pub kind : kind_of page_size (journal_of content id) ≡ head.kind
  pub saves : hot_records page_size (journal_of content id) ≡ saved_under head.kind page_size (drop 512 (journal_of content id))
  pub length : head.length ≡ length (journal_of content id)

-- the heads of the journals, in ascending order
abbrev pub AreHeads : Content → ℕ → List JournalHead → Type 0
AreHeads content page_size heads = (id : ℕ) (head : JournalHead) → slice_get heads id ≡ Some head → IsHead content page_size id head

-- so many bytes the journals have
abbrev pub HaveLengths : List JournalHead → Content → Type 0
HaveLengths heads content = (id : ℕ) (head : JournalHead) → slice_get heads id ≡ Some head → head.length ≡ length (journal_of content id)

-- there are records to roll back
abbrev pub says_hot : JournalKind → Bool
says_hot kinds.Cold = false
says_hot (kinds.OtherSize n) = false
says_hot (kinds.Hot n) = true

-- the journal has a head that does not name this page size
abbrev pub names_other : ℕ → List ℕ → Bool
names_other page_size journal = has_head journal && not (head_page_size journal == page_size)

-- the first of these journals whose head names another page size
unfoldable pub other_from : Content → (page_size id count : ℕ) → Option ℕ
other_from content page_size id count = find (λ i. names_other page_size (journal_of content i)) (numbers_from id count)

pub record IsNamed (content : Content) (page_size : ℕ) (other : OtherSize) : Type 0 where
  pub first : other_from content page_size 0 16 ≡ Some other.id
  pub named : head_page_size (journal_of content other.id) ≡ other.size

abbrev pub IsOther : Content → ℕ → Option OtherSize → Type 0
IsOther content page_size None = other_from content page_size 0 16 ≡ None
IsOther content page_size (Some other) = IsNamed content page_size other
