-- Pages with their bytes, and what a pager shows of them.
use Rattle.std.specs.Prelude.{◌≡◌, ◌≢◌, ◌≤◌, ℕ, ◌&&◌, nat_lt, nat_le, Bool, List, [], ◌∷◌, ◌<◌, length, replicate, take, Option, Some, None, option_to_list, is_some, not, ◌||◌, if◌then◌else◌}
use Rattle.std.specs.Borrow.{Bor}
use Rattle.std.specs.BTreeMap.{is_at}
use Rattle.std.specs.Map.{lookup}
use Rattle.std.specs.Option.{option_map}
use Rattle.std.specs.Ordering.{nat_cmp}
use Rattle.spe_model.specs.Paging.{Agrees, Given, PageMap, Paging, lay}

-- the bytes of each page that is kept
abbrev pub bytes_at : List (ℕ × List ℕ) → PageMap
bytes_at entries n = lookup (is_at (nat_cmp n)) entries

-- a page has these bytes now, or is not kept any more, and each other is as it was
pub record Sets (page : ℕ) (bytes : Option (List ℕ)) (old new : List (ℕ × List ℕ)) : Type 0 where
  pub here : bytes_at new page ≡ bytes
  pub other : (n : ℕ) → n ≢ page → bytes_at new n ≡ bytes_at old n

-- the bytes that are lent are those that are kept
abbrev pub IsLent : Option (List ℕ) → Option (Bor (List ℕ)) → Type 0
IsLent kept None = kept ≡ None
IsLent kept (Some lent) = kept ≡ Some lent.now

-- each page that is kept is so long
abbrev pub AreSized : ℕ → List (ℕ × List ℕ) → Type 0
AreSized size entries = (n : ℕ) (bytes : List ℕ) → bytes_at entries n ≡ Some bytes → length bytes ≡ size

-- each page that is kept has at most this number
abbrev pub AreUpTo : ℕ → List (ℕ × List ℕ) → Type 0
AreUpTo pages entries = (n : ℕ) (bytes : List ℕ) → bytes_at entries n ≡ Some bytes → n ≤ pages

-- a page is listed as read just where it is kept: once, with the bytes that are kept
abbrev pub KeepsSeen : List (ℕ × List ℕ) → Given → Type 0
KeepsSeen clean seen = (n : ℕ) → seen n ≡ option_to_list (bytes_at clean n)

-- one page more was read, which was not before
pub record ReadsOne (page : ℕ) (bytes : List ℕ) (old new : Given) : Type 0 where
  pub fresh : old page ≡ []
  pub here : new page ≡ bytes ∷ []
  pub other : (n : ℕ) → n ≢ page → new n ≡ old n

-- a page that the transaction has added
abbrev pub is_added : (base pages n : ℕ) → Bool
is_added base pages n = nat_lt base n && nat_le n pages

abbrev pub laid_of : Option (List ℕ) → (added : Bool) → (size : ℕ) → Option (List ℕ)
laid_of (Some bytes) added size = Some bytes
laid_of None added size = if added then Some (replicate size 0) else None

-- A page that was put has its newest bytes. One that was added, and not put since, is zeros.
abbrev pub laid_in : (base pages size : ℕ) → List (ℕ × List ℕ) → PageMap
laid_in base pages size dirty n = laid_of (bytes_at dirty n) (is_added base pages n) size

-- these are the bytes of a page, for all pages that agree with what was read
abbrev pub IsShown : Given → PageMap → (page : ℕ) → List ℕ → Type 0
IsShown seen laid page bytes = (pages : Paging) → Agrees pages seen → bytes ≡ lay laid pages page

abbrev pub or_else : Option (List ℕ) → Option (List ℕ) → Option (List ℕ)
or_else (Some bytes) other = Some bytes
or_else None other = other

-- the bytes of page 1, where it was put, or else where it was read
abbrev pub first_of : (dirty clean : List (ℕ × List ℕ)) → Option (List ℕ)
first_of dirty clean = or_else (bytes_at dirty 1) (bytes_at clean 1)

-- the first 24 bytes of page 1 as it was read, and as it is shown
unfoldable pub front_read : (clean : List (ℕ × List ℕ)) → Option (List ℕ)
front_read clean = option_map (take 24) (bytes_at clean 1)

unfoldable pub front_shown : (dirty clean : List (ℕ × List ℕ)) → Option (List ℕ)
front_shown dirty clean = option_map (take 24) (first_of dirty clean)

-- bytes have the first 24 bytes of page 1 as it was read
abbrev pub HasFrontOf : (clean : List (ℕ × List ℕ)) (bytes : List ℕ) → Type 0
HasFrontOf clean bytes = front_read clean ≡ Some (take 24 bytes)

-- there is no page 0, and page 1 was put where pages were added
unfoldable pub are_numbered : (base pages : ℕ) (dirty : List (ℕ × List ℕ)) → Bool
are_numbered base pages dirty = not (is_some (bytes_at dirty 0)) && (nat_le pages base || is_some (bytes_at dirty 1))

-- the first page from a number on that is kept, with its bytes, or none is
abbrev pub IsFirstFrom : (from : ℕ) → List (ℕ × List ℕ) → Option (ℕ × Bor (List ℕ)) → Type 0
IsFirstFrom from entries None = (n : ℕ) → from ≤ n → bytes_at entries n ≡ None
IsFirstFrom from entries (Some first) =
    (from ≤ first.0) × (bytes_at entries first.0 ≡ Some first.1.now) × ((n : ℕ) → from ≤ n → n < first.0 → bytes_at entries n ≡ None)
