-- Chains of overflow pages ("Cell Payload Overflow Pages" in SQLite's Database File Format). An overflow page begins with
-- the number of the next in four bytes, 0 in the last; bytes of the payload fill the rest of its usable bytes.
use Rattle.std.specs.Prelude.{◌≡◌, ℕ, zero, suc, ◌+◌, ◌-◌, ◌/◌, ◌<◌, ◌⊎◌, ◌≢◌, List, [], ◌++◌, take, drop, min}
use Rattle.spe_model.specs.Big.{u32_at}
use Rattle.spe_model.specs.Paging.{Paging}

-- how many bytes of a payload stand in an overflow page
abbrev pub link_room : ℕ → ℕ
link_room usable = usable - 4

-- how many overflow pages so many bytes need
unfoldable pub links : ℕ → ℕ → ℕ
links usable left = (left + (link_room usable - 1)) / link_room usable

-- the number of the page after this one
abbrev pub next_page : Paging → ℕ → ℕ
next_page pages page = u32_at (pages page) 0

-- so many pages from this one on hold the bytes that are left, none is without a byte, and the last names page 0
abbrev pub AreLinks : (usable : ℕ) (pages : Paging) (count left page : ℕ) → Type 0
AreLinks usable pages zero left page = (left ≡ 0) × (page ≡ 0)
AreLinks usable pages (suc count) left page = (0 < left) × (0 < page) × AreLinks usable pages count (left - link_room usable) (next_page pages page)

abbrev pub links_bytes : (usable : ℕ) (pages : Paging) (count left page : ℕ) → List ℕ
links_bytes usable pages zero left page = []
links_bytes usable pages (suc count) left page =
    take (min left (link_room usable)) (drop 4 (pages page)) ++ links_bytes usable pages count (left - link_room usable) (next_page pages page)

-- from this page on, just as many pages as needed hold the bytes that are left; where none are, the page is 0
abbrev pub IsChain : (usable : ℕ) (pages : Paging) (left page : ℕ) → Type 0
IsChain usable pages left page = AreLinks usable pages (links usable left) left page

-- those bytes
abbrev pub chain_bytes : (usable : ℕ) (pages : Paging) (left page : ℕ) → List ℕ
chain_bytes usable pages left page = links_bytes usable pages (links usable left) left page

-- the page that comes after so many others, and the bytes that are left there
abbrev pub link_after : (usable : ℕ) (pages : Paging) (count left page : ℕ) → ℕ × ℕ
link_after usable pages zero left page = (left, page)
link_after usable pages (suc count) left page =
    ((link_after usable pages count left page).0 - link_room usable, next_page pages (link_after usable pages count left page).1)

-- a page number does not go with the bytes that are left there: it is 0 where some are, or another where none are
abbrev pub IsAmiss : ℕ → ℕ → Type 0
IsAmiss left page = ((0 < left) × (page ≡ 0)) ⊎ ((left ≡ 0) × (page ≢ 0))

-- a page on which some of the bytes stand
pub record IsLink (usable : ℕ) (pages : Paging) (left page at : ℕ) : Type 0 where
  pub count : ℕ
  pub place : (link_after usable pages count left page).1 ≡ at
  pub some : 0 < (link_after usable pages count left page).0
