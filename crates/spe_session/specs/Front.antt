-- Page 1 as a transaction finds it.
use Rattle.std.specs.Prelude.{◌≡◌, ℕ, List, length, take, Ok}
use Rattle.spe_model.specs.declared.header.Header.{Header}
use Rattle.spe_model.specs.Header.{header_of}
use Rattle.spe_model.specs.Served.{usable_in}

-- bytes of a page 1 of this size, with a legal header that names the size, so many usable bytes, and so many pages
pub record IsFrontOf (size usable count : ℕ) (bytes : List ℕ) : Type 0 where
  pub long : length bytes ≡ size
  pub header : Header
  pub legal : header_of (take 100 bytes) ≡ Ok header
  pub size_is : header.page_size ≡ size
  pub used : usable_in header ≡ usable
  pub number : header.pages ≡ count
