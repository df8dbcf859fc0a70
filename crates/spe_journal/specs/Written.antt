-- Journals as they are written: a head, records, and what a stop left of one more.
use Rattle.std.specs.Prelude.{◌≡◌, ◌≢◌, ℕ, ◌+◌, ◌<◌, ◌^◌, List, ◌++◌, length, All}
use Rattle.std.specs.List.{flat_map}
use Rattle.spe_model.specs.Journal.{Saved, head_bytes, record_bytes}

-- a page that a journal of this page size can save
pub record IsSavable (page_size : ℕ) (saved : Saved) : Type 0 where
  pub named : saved.page ≢ 0
  pub fits : saved.page < 2 ^ 32
  pub sized : length saved.content ≡ page_size

-- the bytes of a journal that saves these pages
abbrev pub journal_bytes : (nonce pages page_size : ℕ) → List Saved → List ℕ
journal_bytes nonce pages page_size saved =
    head_bytes nonce pages page_size ++ flat_map (λ s. record_bytes nonce s.page s.content) saved

-- a journal was written that saves these pages, and maybe some bytes of one more record
pub record IsWritten (page_size : ℕ) (saved : List Saved) (journal : List ℕ) : Type 0 where
  pub nonce : ℕ
  pub pages : ℕ
  pub torn : List ℕ
  pub nonce_fits : nonce < 2 ^ 32
  pub savable : All (IsSavable page_size) saved
  pub cut : length torn < page_size + 8
  pub bytes : journal ≡ journal_bytes nonce pages page_size saved ++ torn
