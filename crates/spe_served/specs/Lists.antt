-- Spaces whose free pages are those of the lists that page 1 names.
use Rattle.std.specs.Prelude.{ℕ, List}
use Rattle.spe_model.specs.Paging.{Paging}
use Rattle.spe_model.specs.Standing.{AreFree, FreeChain}
use Rattle.spe_space.specs.declared.pages.Pages.{Ghosts}
use Rattle.spe_space.specs.Calls.{sight}
use Rattle.spe_frame.specs.Framed.{ListsAreFree}

-- page 1 names some lists, and whichever it names are the free pages and the node
pub record HasLists {P : Type 0} (g : Ghosts P) (s : P) (pages : Paging) : Type 0 where
  pub lists : List FreeChain
  pub listed : List ℕ
  pub are : ListsAreFree g s pages lists listed
  pub each : (lists : List FreeChain) (listed : List ℕ) → AreFree (g.used s) (sight g s pages) lists listed → ListsAreFree g s pages lists listed

-- so it is wherever pages stand in such a space
abbrev pub ListsStand : {P : Type 0} (g : Ghosts P) → Type 0
ListsStand {P = P} g = (s : P) (pages : Paging) → g.stands s pages → HasLists g s pages
