-- The pages of a database file that is told.
use Rattle.std.specs.Prelude.{◌≡◌, ℕ, ◌-◌, ◌*◌, ◌==◌, List, [], ◌∷◌, All, map, Option, Some, if◌then◌else◌}
use Rattle.std.specs.Option.{option_map}
use Rattle.spe_model.specs.declared.file.FileNo.TheVariants.{Database}
use Rattle.spe_model.specs.Content.{Content, bytes_of, filled}
use Rattle.spe_model.specs.Paging.{Paging, Given}
use Rattle.spe_model.specs.Recovery.{pages_to}
use Rattle.spe_model.specs.Settled.{page_in}
use Rattle.spe_model.specs.Trace.{History, present}

-- a page of a database file, with zeros past its end
abbrev pub held_page : (size : ℕ) → Content → Paging
held_page size content page = filled (bytes_of content Database) ((page - 1) * size) size

-- its first pages, of which there are so many
abbrev pub held_pages : (size count : ℕ) → Content → List (List ℕ)
held_pages size count content = map (held_page size content) (pages_to count)

-- these pages, where the disk tells them
abbrev pub told_pages : Option History → (size count : ℕ) → Option Paging
told_pages told size count = option_map (λ h. page_in (held_pages size count (present h))) told

-- these are the bytes of a page of them, where the disk tells it
abbrev pub IsHeld : Option History → (size count page : ℕ) → List ℕ → Type 0
IsHeld told size count page bytes = (h : History) → told ≡ Some h → page_in (held_pages size count (present h)) page ≡ bytes

-- a page is given once more
abbrev pub given_too : (page : ℕ) → List ℕ → Given → Given
given_too page bytes given n = if page == n then bytes ∷ given n else given n

-- the bytes of each page in a list of pages with their bytes
abbrev pub given_in : List (ℕ × List ℕ) → Given
given_in [] n = []
given_in (p ∷ ps) n = given_too p.0 p.1 (given_in ps) n

-- each page was given as it is in the file, where the disk tells it
abbrev pub AreOf : Option History → (size count : ℕ) → Given → Type 0
AreOf told size count given = (n : ℕ) → All (IsHeld told size count n) (given n)
