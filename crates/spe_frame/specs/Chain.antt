-- Chains of overflow pages that a change leaves as they are.
use Rattle.std.specs.Prelude.{◌≡◌, ℕ, List}
use Rattle.spe_model.specs.Chain.{AreLinks, links_bytes}
use Rattle.spe_model.specs.Paging.{Paging}
use Rattle.spe_model.specs.Standing.{link_pages}
use Rattle.spe_space.specs.declared.pages.Pages.{Ghosts}
use Rattle.spe_space.specs.Calls.{sight}
use Rattle.spe_frame.specs.Held.{IsOthers, Spares}
use Rattle.spe_frame.specs.Times.{HoldsOf, Lacks}

-- a chain has the pages and the bytes that it had
pub record ChainKept (usable : ℕ) (old new : Paging) (count left page : ℕ) : Type 0 where
  pub pages_are : link_pages new count page ≡ link_pages old count page
  pub bytes_are : links_bytes usable new count left page ≡ links_bytes usable old count left page
  pub links : AreLinks usable old count left page → AreLinks usable new count left page

-- so has each whose pages are in use elsewhere
abbrev pub ChainStays : {P : Type 0} (g : Ghosts P) → Type 0
ChainStays {P = P} g = (old new : P) (pages : Paging) (own : List ℕ) (allocs usable count left page : ℕ)
    → Spares g old new pages own allocs → HoldsOf (IsOthers g old pages own) (link_pages (sight g old pages) count page) → Lacks (link_pages (sight g old pages) count page) 1
    → ChainKept usable (sight g old pages) (sight g new pages) count left page
