-- The header of page 1 where only its counters changed.
use Rattle.std.specs.Prelude.{◌≡◌, ℕ, ◌≤◌, List, length, take, true, Ok}
use Rattle.spe_model.specs.declared.header.Header.{Header}
use Rattle.spe_model.specs.Header.{header_of, is_size_valid}
use Rattle.spe_model.specs.Big.{u32_at}
use Rattle.spe_model.specs.FreeList.{names_node}
use Rattle.spe_frame.specs.Held.{IsCounted, KeepsHead}

-- the header is legal again, with the same sizes, and page 1 names the same page for its free lists
pub record KeepsHeader (old new : List ℕ) (header : Header) : Type 0 where
  pub now : Header
  pub legal : header_of (take 100 new) ≡ Ok now
  pub size : now.page_size ≡ header.page_size
  pub reserved : now.reserved ≡ header.reserved
  pub first : now.first_free ≡ header.first_free
  pub free : now.free_count ≡ header.free_count
  pub node : names_node new ≡ names_node old
  pub number : now.pages ≡ u32_at new 28
  pub valid : IsCounted new → is_size_valid now ≡ true

abbrev pub HeaderStays : Type 0
HeaderStays = (old new : List ℕ) (header : Header) → header_of (take 100 old) ≡ Ok header → 100 ≤ length old → 100 ≤ length new → KeepsHead old new → KeepsHeader old new header

-- a header whose page count is valid is one whose number of pages counts
abbrev pub ValidIsCounted : Type 0
ValidIsCounted = (front : List ℕ) (header : Header) → header_of (take 100 front) ≡ Ok header → is_size_valid header ≡ true → IsCounted front
