-- A b-tree page that is written, at a bound `P: Pages`.
use Rattle.std.specs.Prelude.{◌≡◌, ℕ, List, take, Ok}
use Rattle.spe_model.specs.declared.page.PageCells.{PageCells}
use Rattle.spe_model.specs.Page.{page_at}
use Rattle.spe_model.specs.Paging.{Agrees, Paging}
use Rattle.spe_model.specs.Tree.{header_end}
use Rattle.spe_space.specs.declared.pages.Pages.{Ghosts}
use Rattle.spe_space.specs.Calls.{sight}
use Rattle.spe_frame.specs.Held.{HasHead, Puts}

-- bytes that have the header of the file, where they are for page 1
abbrev pub KnowsHead : {P : Type 0} (g : Ghosts P) (old new : P) (page : ℕ) → List ℕ → Type 0
KnowsHead g old new page bytes = (pages : Paging) → Agrees pages (g.seen new) → HasHead page (sight g old pages 1) bytes

-- nothing was put
abbrev pub IsUnlaid : {P : Type 0} (g : Ghosts P) (old new : P) → Type 0
IsUnlaid g old new = g.laid new ≡ g.laid old

-- the page was put with these cells, and all others stay
pub record LaysNode {P : Type 0} (g : Ghosts P) (old new : P) (page : ℕ) (cells : PageCells) : Type 0 where
  pub bytes : List ℕ
  pub is : page_at (take (g.used old) bytes) (header_end page) ≡ Ok cells
  pub puts : Puts g old new page bytes
