-- Pages by number, and pages with what a transaction wrote laid over them.
use Rattle.std.specs.Prelude.{◌≡◌, ℕ, zero, suc, ◌*◌, ◌^◌, ◌<◌, ◌≤◌, true, List, length, map, take, is_some, Option, None, Ok, slice_get}
use Rattle.spe_model.specs.Header.{fields, header_of, is_size_valid}
use Rattle.spe_model.specs.Paging.{PageMap, lay}
use Rattle.spe_model.specs.Recovery.{pages_to}
use Rattle.spe_model.specs.Settled.{header_in, page_in}

-- page p of some pages, where it is one of theirs
abbrev pub page_at : List (List ℕ) → ℕ → Option (List ℕ)
page_at pages zero = None
page_at pages (suc n) = slice_get pages n

-- the number of pages that a page 1 names
abbrev pub named_count : List ℕ → ℕ
named_count page = (fields (take 100 page)).pages

-- pages with what was written laid over them, up to the count that their page 1 then names
abbrev pub laid_pages : List (List ℕ) → PageMap → List (List ℕ)
laid_pages pages written = map (lay written (page_in pages)) (pages_to (named_count (lay written (page_in pages) 1)))

-- a page above those that page 1 counts, where the transaction has journalled page 1
pub record IsAdded (pages : List (List ℕ)) (journalled : PageMap) (p : ℕ) : Type 0 where
  pub above : length pages < p
  pub counted : is_size_valid (header_in pages) ≡ true
  pub first : is_some (journalled 1) ≡ true

-- what was written may be committed: page 1 is then legal and names at least as many pages as before, and each page that
-- it adds was written
pub record MayCommit (pages : List (List ℕ)) (written : PageMap) (page_size : ℕ) : Type 0 where
  pub legal : header_of (take 100 (lay written (page_in pages) 1)) ≡ Ok (fields (take 100 (lay written (page_in pages) 1)))
  pub valid : is_size_valid (fields (take 100 (lay written (page_in pages) 1))) ≡ true
  pub low : length pages ≤ named_count (lay written (page_in pages) 1)
  pub small : named_count (lay written (page_in pages) 1) * page_size ≤ 2 ^ 30
  pub added : (p : ℕ) → length pages < p → p ≤ named_count (lay written (page_in pages) 1) → is_some (written p) ≡ true
