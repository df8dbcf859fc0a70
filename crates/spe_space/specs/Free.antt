-- Free pages, as tests of page numbers before and after a call.
use Rattle.std.specs.Prelude.{◌≡◌, ◌≢◌, ◌⊎◌, ℕ, ◌+◌, ◌<◌, ◌≤◌, List, take, Bool, false, IsTrue}
use Rattle.spe_model.specs.Paging.{Paging, Given, Agrees}
use Rattle.spe_space.specs.Front.{number_in, list_in}

-- whatever the pages are below, as long as they agree with what was given and stand
abbrev pub EachStanding : (seen : Given) (stands : Paging → Type 0) → (Paging → Type 0) → Type 0
EachStanding seen stands P = (pages : Paging) → Agrees pages seen → stands pages → P pages

-- the bytes may be put on the page, and no free page is touched: it is not free and not the one that page 1 names as the
-- first of the freelist, and page 1 keeps its first 40 bytes
pub record IsApart (pages : Paging) (free : ℕ → Bool) (page : ℕ) (bytes : List ℕ) : Type 0 where
  pub taken : free page ≡ false
  pub unnamed : page ≢ list_in pages
  pub front : page ≡ 1 → take 40 bytes ≡ take 40 (pages 1)

-- one of so many pages other than page 1
abbrev pub IsLaterPage : (number n : ℕ) → Type 0
IsLaterPage number n = (2 ≤ n) × (n ≤ number)

pub later_page_of : (number count n : ℕ) → number ≡ count → IsLaterPage count n → IsLaterPage number n
later_page_of number count n same placed = rw same placed

-- a page that may become free
pub record MayFree (pages : Paging) (free : ℕ → Bool) (page : ℕ) : Type 0 where
  pub low : 2 ≤ page
  pub high : page ≤ number_in pages
  pub taken : free page ≡ false
  pub unnamed : page ≢ list_in pages

abbrev pub IsSame : (old new : ℕ → Bool) → Type 0
IsSame old new = (n : ℕ) → new n ≡ old n

-- one page is free no more
pub record IsTaken (old new : ℕ → Bool) (page : ℕ) : Type 0 where
  pub was : IsTrue (old page)
  pub taken : new page ≡ false
  pub others : (n : ℕ) → n ≢ page → new n ≡ old n

-- one page is free now
pub record IsFreed (old new : ℕ → Bool) (page : ℕ) : Type 0 where
  pub freed : IsTrue (new page)
  pub others : (n : ℕ) → n ≢ page → new n ≡ old n

-- one of the sixteen pages from this one on
abbrev pub IsNew : (first n : ℕ) → Type 0
IsNew first n = (first ≤ n) × (n < first + 16)

-- of sixteen pages the first is taken and the others are free now
pub record IsGrown (old new : ℕ → Bool) (first : ℕ) : Type 0 where
  pub taken : new first ≡ false
  pub freed : (n : ℕ) → IsNew first n → n ≢ first → IsTrue (new n)
  pub others : (n : ℕ) → (IsNew first n → ⊥) → new n ≡ old n

-- each page of which two lists of pages say something else is one of these
abbrev pub DifferAt : {X : Type 0} (old new : ℕ → X) → (ℕ → Type 0) → Type 0
DifferAt old new P = (n : ℕ) → (new n ≡ old n) ⊎ P n
