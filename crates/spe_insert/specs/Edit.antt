-- What is done with a row of a rowid in a tree.
use Rattle.std.specs.Prelude.{◌≡◌, ℕ, ℤ, List, length, Option, None, is_some, true}
use Rattle.spe_cut.specs.Changed.{with_payload}
use Rattle.spe_cut.specs.Rows.{with_row}

-- The row is put, or the row that is there gets another payload.
pub data Edit : Type 0 where
  puts : (payload : List ℕ) → Edit
  changes : (payload : List ℕ) → Edit

-- the rows then
abbrev pub edited : Edit → (rowid : ℤ) → List (ℤ × List ℕ) → List (ℤ × List ℕ)
edited (puts payload) rowid rows = with_row rowid payload rows
edited (changes payload) rowid rows = with_payload rowid payload rows

-- how many bytes the new payload has
abbrev pub size_of : Edit → ℕ
size_of (puts payload) = length payload
size_of (changes payload) = length payload

-- what there is under the rowid before: nothing where a row is put, else a row
abbrev pub IsBefore : Edit → Option (List ℕ) → Type 0
IsBefore (puts payload) found = found ≡ None
IsBefore (changes payload) found = is_some found ≡ true
