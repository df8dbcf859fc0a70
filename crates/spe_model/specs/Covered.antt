-- Operations that a stop may tear anywhere: whatever it leaves of the last of them, the recovered pages are as before.
-- The discipline is this project's own.
use Rattle.std.specs.Prelude.{◌≡◌, ℕ, ◌+◌, ◌-◌, ◌*◌, ◌<◌, ◌≤◌, ◌⊎◌, ◌==◌, Bool, true, is_some, List, [], ◌∷◌, length, Ok, if◌then◌else◌}
use Rattle.std.specs.List.{find}
use Rattle.spe_model.specs.declared.file.FileNo.TheVariants.{Database, Journal}
use Rattle.spe_model.specs.Content.{Content}
use Rattle.spe_model.specs.Header.{is_size_valid}
use Rattle.spe_model.specs.Recovery.{all_hot, file_page_size, is_of, journal_of, recovered, recovered_header}
use Rattle.spe_model.specs.Trace.{Operation, made_by}
use Rattle.spe_model.specs.Trace.Operation.{Write, Cut}

-- these are the recovered pages
abbrev pub Recovers : Content → List (List ℕ) → Type 0
Recovers content pages = recovered content ≡ Ok pages

-- a hot journal has a record of the page
abbrev pub is_held : Content → ℕ → Bool
is_held content p = is_some (find (is_of p) (all_hot content))

-- where in the file the bytes of a page begin that may be written: the first 24 of page 1 never are
abbrev pub first_place : (page_size p : ℕ) → ℕ
first_place page_size p = if p == 1 then 24 else (p - 1) * page_size

-- so many bytes from this place on lie within one page
pub record LieWithin (page_size p at size : ℕ) : Type 0 where
  pub numbered : 1 ≤ p
  pub from : first_place page_size p ≤ at
  pub to : at + size ≤ p * page_size

-- a page up to the count that a hot journal holds
abbrev pub IsSaved : Content → (pages : List (List ℕ)) → ℕ → Type 0
IsSaved content pages p = (is_held content p ≡ true) × (p ≤ length pages)

-- a page above the count, where the recovered page 1 itself names the count
abbrev pub IsSpare : Content → (pages : List (List ℕ)) → ℕ → Type 0
IsSpare content pages p = (length pages < p) × (is_size_valid (recovered_header content) ≡ true)

-- a write of the database that changes no recovered page
pub record IsSafe (content : Content) (at size : ℕ) : Type 0 where
  pub pages : List (List ℕ)
  pub recovers : Recovers content pages
  pub page : ℕ
  pub within : LieWithin (file_page_size content) page at size
  pub safe : IsSaved content pages page ⊎ IsSpare content pages page

-- the file is cut to its recovered pages
pub record IsTrim (content : Content) (size : ℕ) : Type 0 where
  pub pages : List (List ℕ)
  pub recovers : Recovers content pages
  pub end : size ≡ length pages * file_page_size content

-- the operation is one of these: a write of the database that changes no recovered page; a write at the end of a
-- journal; a cut of the database to its recovered pages; a cut of a journal to none
abbrev pub IsCovered : Content → Operation → Type 0
IsCovered content (Write Database at bytes) = IsSafe content at (length bytes)
IsCovered content (Write (Journal id) at bytes) = at ≡ length (journal_of content id)
IsCovered content (Cut Database size) = IsTrim content size
IsCovered content (Cut (Journal id) size) = size ≡ 0

-- each operation is so, on the content before it
abbrev pub Covered : Content → List Operation → Type 0
Covered content [] = Unit {0}
Covered content (o ∷ os) = IsCovered content o × Covered (made_by o content) os
