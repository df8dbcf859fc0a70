-- The free pages that a pager shows: those of the lists that page 1 names.
use Rattle.std.specs.Prelude.{◌≡◌, ℕ, zero, suc, ◌+◌, ◌*◌, ◌∷◌, ◌++◌, List, Bool, Option, Some, None, IsTrue}
use Rattle.spe_model.specs.Big.{u32_at}
use Rattle.spe_model.specs.FreeList.{leaf_count, next_trunk}
use Rattle.spe_model.specs.Paging.{Paging}
use Rattle.spe_model.specs.Standing.{FreeChain}
use Rattle.spe_model.specs.Verdict.{free_pages}
use Rattle.spe_model.specs.Walk.{is_met}
use Rattle.spe_space.specs.Free.{IsLaterPage}
use Rattle.spe_space.specs.Front.{number_in}
use Rattle.spe_freelist.specs.Place.{AreLists}

-- a page of the lists, of which the node page is none
unfoldable pub is_listed : Paging → ℕ → Bool
is_listed pages n = is_met (free_pages (number_in pages) pages) n

-- page 1 names so many pages, its lists are whole, and one of them begins at this trunk
pub record AreInOrder (usable count first : ℕ) (pages : Paging) : Type 0 where
  pub number : number_in pages ≡ count
  pub before : List FreeChain
  pub own : FreeChain
  pub after : List FreeChain
  pub listed : List ℕ
  pub first_is : own.first ≡ first
  pub lists : AreLists usable pages (before ++ own ∷ after) listed
  pub later : (n : ℕ) → IsTrue (is_listed pages n) → IsLaterPage (number_in pages) n

-- the page that is taken next from the list that begins at a trunk: its last leaf, or the trunk behind it
abbrev pub next_or : (leaf : ℕ) (leaves next : ℕ) → Option ℕ
next_or leaf (suc n) next = Some leaf
next_or leaf zero (suc n) = Some (suc n)
next_or leaf zero zero = None

unfoldable pub next_in : (first : ℕ) → Paging → Option ℕ
next_in first pages = next_or (u32_at (pages first) (4 + 4 * leaf_count pages first)) (leaf_count pages first) (next_trunk pages first)
