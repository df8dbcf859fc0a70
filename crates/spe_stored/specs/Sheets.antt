-- Pages with their bytes, in the order of their numbers, each number once.
use Rattle.std.specs.Prelude.{ℕ, ◌==◌, not, Bool, List, [], ◌∷◌, filter, Option, Some, None, is_some, if◌then◌else◌}
use Rattle.std.specs.Ordering.{nat_cmp}
use Rattle.std.specs.BTreeMap.{insert_entry}
use Rattle.spe_model.specs.Paging.{PageMap}

abbrev pub Sheets : Type 0
Sheets = List (ℕ × List ℕ)

-- the bytes of a page, where it is among them
abbrev pub sheet_at : ℕ → Sheets → Option (List ℕ)
sheet_at p [] = None
sheet_at p (s ∷ ss) = if s.0 == p then Some s.1 else sheet_at p ss

-- they as pages by number
abbrev pub pages_at : Sheets → PageMap
pages_at sheets p = sheet_at p sheets

abbrev pub has_sheet : ℕ → Sheets → Bool
has_sheet p sheets = is_some (sheet_at p sheets)

-- with these bytes as the page's
abbrev pub with_sheet : ℕ → List ℕ → Sheets → Sheets
with_sheet p bytes sheets = insert_entry nat_cmp sheets p bytes

abbrev pub without_sheet : ℕ → Sheets → Sheets
without_sheet p sheets = filter (λ s. not (s.0 == p)) sheets
