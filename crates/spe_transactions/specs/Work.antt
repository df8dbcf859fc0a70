-- What several transactions that have not ended did to the files of a database.
use Rattle.std.specs.Prelude.{◌≡◌, ◌⊎◌, ℕ, ◌<◌, ◌&&◌, ◌==◌, Bool, true, false, List, [], length, Some, None, is_some, if◌then◌else◌}
use Rattle.std.specs.List.{list_any}
use Rattle.spe_model.specs.Content.{Content}
use Rattle.spe_model.specs.Covered.{Recovers}
use Rattle.spe_model.specs.Journal.{Saved}
use Rattle.spe_model.specs.Paging.{PageMap}
use Rattle.spe_model.specs.Recovery.{file_page, file_page_size, is_of, journal_of}
use Rattle.spe_journal.specs.Written.{IsWritten}
use Rattle.spe_transactions.specs.Pages.{IsAdded, page_at}

-- the pages that each transaction journalled, or wrote, by its id
abbrev pub Works : Type 0
Works = ℕ → PageMap

-- no transaction has any
abbrev pub no_works : Works
no_works id p = None

abbrev pub has_page : Works → (id p : ℕ) → Bool
has_page works id p = is_some (works id p)

-- with one more page of one transaction
abbrev pub with_page : (id p : ℕ) → List ℕ → Works → Works
with_page id p bytes works i q = if (i == id) && (q == p) then Some bytes else works i q

-- without one page of one transaction
abbrev pub without_page : (id p : ℕ) → Works → Works
without_page id p works i q = if (i == id) && (q == p) then None else works i q

-- without all that one transaction has
abbrev pub without_id : ℕ → Works → Works
without_id id works i q = if i == id then None else works i q

-- a journal whose last record is whole saves just these pages
pub record IsJournal (page_size : ℕ) (journal : List ℕ) (journalled : PageMap) : Type 0 where
  pub saved : List Saved
  pub written : IsWritten page_size saved journal
  pub whole : written.torn ≡ []
  pub holds : (p : ℕ) → list_any (is_of p) saved ≡ is_some (journalled p)

-- there is no journal and nothing is journalled, or the journal saves just what is
abbrev pub Journals : (page_size : ℕ) (journal : List ℕ) (journalled : PageMap) → Type 0
Journals page_size journal journalled = (journal ≡ []) × ((p : ℕ) → is_some (journalled p) ≡ false) ⊎ IsJournal page_size journal journalled

-- a page that a transaction may write: one that it journalled, or one that it adds
abbrev pub MayWrite : (pages : List (List ℕ)) (journalled : PageMap) → ℕ → Type 0
MayWrite pages journalled p = (is_some (journalled p) ≡ true) ⊎ IsAdded pages journalled p

-- These pages are recovered from the files, in which each of some transactions has journalled and written what it lists.
-- No page is journalled by two of them, and what none has written is as recovered.
pub record AtWork (content : Content) (pages : List (List ℕ)) (journalled written : Works) : Type 0 where
  pub files : length content ≡ 17
  pub recovers : Recovers content pages
  pub sized : (p : ℕ) (bytes : List ℕ) → page_at pages p ≡ Some bytes → length bytes ≡ file_page_size content
  pub journals : (id : ℕ) → id < 16 → Journals (file_page_size content) (journal_of content id) (journalled id)
  pub numbered : (id p : ℕ) → has_page journalled id p ≡ true → id < 16
  pub apart : (p i j : ℕ) → has_page journalled i p ≡ true → has_page journalled j p ≡ true → i ≡ j
  pub before : (id p : ℕ) (bytes : List ℕ) → journalled id p ≡ Some bytes → page_at pages p ≡ Some bytes
  pub placed : (id p : ℕ) → has_page written id p ≡ true → MayWrite pages (journalled id) p
  pub in_file : (id p : ℕ) (bytes : List ℕ) → written id p ≡ Some bytes → (file_page content p ≡ bytes) × (length bytes ≡ file_page_size content)
  pub kept : (p : ℕ) (bytes : List ℕ) → page_at pages p ≡ Some bytes → ((id : ℕ) → has_page written id p ≡ false) → file_page content p ≡ bytes
