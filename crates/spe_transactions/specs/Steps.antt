-- The steps of transactions at work: each makes one operation, or none.
use Rattle.std.specs.Prelude.{◌≡◌, ◌≢◌, ◌⊎◌, ℕ, ◌<◌, ◌≤◌, ◌^◌, true, false, List, [], length, take, Some}
use Rattle.spe_model.specs.declared.file.FileNo.TheVariants.{Database, Journal}
use Rattle.spe_model.specs.Big.{u32_at}
use Rattle.spe_model.specs.Content.{Content, bytes_of}
use Rattle.spe_model.specs.Covered.{Recovers}
use Rattle.spe_model.specs.Journal.{head_bytes, record_bytes}
use Rattle.spe_model.specs.Recovery.{file_page, file_page_size, journal_of}
use Rattle.spe_model.specs.Rollback.{cut_of, write_of}
use Rattle.spe_model.specs.Trace.Operation.{Write}
use Rattle.spe_transactions.specs.Made.{Makes}
use Rattle.spe_transactions.specs.Pages.{MayCommit, laid_pages, page_at}
use Rattle.spe_transactions.specs.Work.{AtWork, MayWrite, Works, has_page, no_works, with_page, without_id, without_page}

-- P of each content at work
abbrev pub AtWorkAll : (Content → List (List ℕ) → Works → Works → Type 0) → Type 0
AtWorkAll P = (content : Content) (pages : List (List ℕ)) (journalled written : Works) → AtWork content pages journalled written → P content pages journalled written

-- files whose journals have no bytes, with no transaction
abbrev pub OpeningWorks : Type 0
OpeningWorks = (content : Content) (pages : List (List ℕ))
    → length content ≡ 17 → Recovers content pages → ((id : ℕ) → id < 16 → journal_of content id ≡ []) → AtWork content pages no_works no_works

-- a journal that is absent is made, with no bytes; one that is there stays so
abbrev pub MadeWorks : Type 0
MadeWorks = AtWorkAll (λ content pages journalled written. (id : ℕ) → id < 16 → journal_of content id ≡ [] → Makes content (cut_of id) pages pages journalled written)

-- a journal that has no bytes gets its head
abbrev pub HeadWorks : Type 0
HeadWorks = AtWorkAll (λ content pages journalled written.
    (id nonce size : ℕ) → id < 16 → nonce < 2 ^ 32 → journal_of content id ≡ []
    → Makes content (Write (Journal id) 0 (head_bytes nonce size (file_page_size content))) pages pages journalled written)

-- a page that no journal has gets a record
abbrev pub RecordWorks : Type 0
RecordWorks = AtWorkAll (λ content pages journalled written.
    (id p : ℕ) → id < 16 → journal_of content id ≢ [] → 1 ≤ p → p ≤ length pages → ((i : ℕ) → has_page journalled i p ≡ false)
    → Makes content (Write (Journal id) (length (journal_of content id)) (record_bytes (u32_at (journal_of content id) 12) p (file_page content p)))
    pages pages (with_page id p (file_page content p) journalled) written)

-- a page that its transaction has journalled stays as it was journalled, if it is journalled again
abbrev pub AgainWorks : Type 0
AgainWorks = AtWorkAll (λ content pages journalled written.
    (id p : ℕ) (old : List ℕ) → journalled id p ≡ Some old
    → (page_at pages p ≡ Some old) × (with_page id p old journalled ≡ journalled))

-- a page is written that its transaction journalled, or adds
abbrev pub PutWorks : Type 0
PutWorks = AtWorkAll (λ content pages journalled written.
    (id p : ℕ) (bytes : List ℕ) → length bytes ≡ file_page_size content → (p ≡ 1 → take 24 bytes ≡ take 24 (bytes_of content Database))
    → MayWrite pages (journalled id) p
    → Makes content (write_of (file_page_size content) (record { page = p; content = bytes })) pages pages journalled (with_page id p bytes written))

-- a page that its transaction journalled gets its old bytes
abbrev pub UndoWorks : Type 0
UndoWorks = AtWorkAll (λ content pages journalled written.
    (id p : ℕ) (old : List ℕ) → journalled id p ≡ Some old
    → Makes content (write_of (file_page_size content) (record { page = p; content = old })) pages pages journalled (without_page id p written))

-- a page that a transaction has journalled and written
pub record IsChanged (journalled written : Works) (id p : ℕ) : Type 0 where
  pub old : List ℕ
  pub journalled_as : journalled id p ≡ Some old
  pub is_written : has_page written id p ≡ true

-- the least of them
pub record IsLeastChanged (journalled written : Works) (id p : ℕ) : Type 0 where
  pub changed : IsChanged journalled written id p
  pub least : (q : ℕ) → q < p → has_page journalled id q ≡ true → has_page written id q ≡ false

-- each page that a transaction journalled is as before
abbrev pub IsUndone : (journalled written : Works) → ℕ → Type 0
IsUndone journalled written id = (p : ℕ) → has_page journalled id p ≡ true → has_page written id p ≡ false

-- a transaction has a least page to undo, or none
abbrev pub LeastWorks : Type 0
LeastWorks = AtWorkAll (λ content pages journalled written.
    (id : ℕ) → IsUndone journalled written id ⊎ ((p : ℕ) × IsLeastChanged journalled written id p))

-- a transaction with nothing left to undo is dropped
abbrev pub DropWorks : Type 0
DropWorks = AtWorkAll (λ content pages journalled written.
    (id : ℕ) → id < 16 → IsUndone journalled written id
    → Makes content (cut_of id) pages pages (without_id id journalled) (without_id id written))

-- a transaction commits what it wrote
abbrev pub CommitWorks : Type 0
CommitWorks = AtWorkAll (λ content pages journalled written.
    (id : ℕ) → id < 16 → MayCommit pages (written id) (file_page_size content)
    → Makes content (cut_of id) pages (laid_pages pages (written id)) (without_id id journalled) (without_id id written))

-- a transaction without a journal has journalled and written nothing, and ends without an operation
pub record EndsBare (content : Content) (pages : List (List ℕ)) (journalled written : Works) (id : ℕ) : Type 0 where
  pub no_journalled : (p : ℕ) → has_page journalled id p ≡ false
  pub no_written : (p : ℕ) → has_page written id p ≡ false
  pub work : AtWork content pages (without_id id journalled) (without_id id written)
  pub laid : MayCommit pages (written id) (file_page_size content) → laid_pages pages (written id) ≡ pages

abbrev pub BareEnds : Type 0
BareEnds = AtWorkAll (λ content pages journalled written. (id : ℕ) → id < 16 → journal_of content id ≡ [] → EndsBare content pages journalled written id)

-- a page that a commit has not written is as before
abbrev pub CommitLeaves : Type 0
CommitLeaves = AtWorkAll (λ content pages journalled written.
    (id p : ℕ) (bytes : List ℕ) → MayCommit pages (written id) (file_page_size content) → page_at pages p ≡ Some bytes → has_page written id p ≡ false
    → page_at (laid_pages pages (written id)) p ≡ Some bytes)
