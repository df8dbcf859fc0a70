-- Free lists as what they are: trunks in their order, each with its leaves. How a page is taken from a list and given to it
-- is this project's own.
use Rattle.std.specs.Prelude.{ℕ, zero, suc, ◌+◌, List, [], ◌∷◌, ◌++◌, length, nat_lt, if◌then◌else◌, Option, Some, None}
use Rattle.spe_model.specs.FreeList.{leaves_of, next_trunk}
use Rattle.spe_model.specs.Paging.{Paging}
use Rattle.spe_model.specs.Standing.{FreeChain}
use Rattle.spe_freelist.specs.Trunk.{fifteen, full_leaves}

pub record Trunk : Type 0 where
  pub page : ℕ
  pub leaves : List ℕ

-- so many trunks from a page on
abbrev pub trunks_from : Paging → (count page : ℕ) → List Trunk
trunks_from pages zero page = []
trunks_from pages (suc count) page = record { page = page; leaves = leaves_of pages page } ∷ trunks_from pages count (next_trunk pages page)

abbrev pub list_of : Paging → FreeChain → List Trunk
list_of pages f = trunks_from pages f.trunks f.first

-- the pages of a list
abbrev pub pages_of : List Trunk → List ℕ
pages_of [] = []
pages_of (t ∷ ts) = t.page ∷ t.leaves ++ pages_of ts

-- the last of some numbers, and those before it
abbrev pub last_of : ℕ → List ℕ → ℕ
last_of n [] = n
last_of n (m ∷ ms) = last_of m ms

abbrev pub before_last : ℕ → List ℕ → List ℕ
before_last n [] = []
before_last n (m ∷ ms) = n ∷ before_last m ms

-- The page that is handed out next: the first trunk's last leaf, or else the next trunk. Where there is neither, it is a
-- new page.
abbrev pub next_of : (leaves : List ℕ) (others : List Trunk) → Option ℕ
next_of [] [] = None
next_of [] (t ∷ ts) = Some t.page
next_of (n ∷ ns) ts = Some (last_of n ns)

abbrev pub next_free : List Trunk → Option ℕ
next_free [] = None
next_free (t ∷ ts) = next_of t.leaves ts

-- What is left then: the first trunk loses its last leaf; or else it takes the leaves of the next trunk, and what comes
-- after that; or else, of sixteen new pages behind so many, the first is handed out and the others become its leaves.
abbrev pub left_of : (number first : ℕ) (leaves : List ℕ) (others : List Trunk) → List Trunk
left_of number first [] [] = record { page = first; leaves = fifteen (number + 1) } ∷ []
left_of number first [] (t ∷ ts) = record { page = first; leaves = t.leaves } ∷ ts
left_of number first (n ∷ ns) ts = record { page = first; leaves = before_last n ns } ∷ ts

abbrev pub taken : (number : ℕ) → List Trunk → List Trunk
taken number [] = []
taken number (t ∷ ts) = left_of number t.page t.leaves ts

-- A page given becomes the first trunk's last leaf. Where that has its fill of leaves, the page becomes the trunk behind it,
-- and takes all its leaves.
abbrev pub freed : (usable page : ℕ) → List Trunk → List Trunk
freed usable page [] = []
freed usable page (t ∷ ts) =
    if nat_lt (length t.leaves) (full_leaves usable)
    then record { page = t.page; leaves = t.leaves ++ page ∷ [] } ∷ ts
    else record { page = t.page; leaves = [] } ∷ record { page = page; leaves = t.leaves } ∷ ts
