-- The cell of a row that is put into a leaf, at a bound `P: Pages`.
use Rattle.std.specs.Prelude.{◌≡◌, ℕ, List, [], length}
use Rattle.spe_model.specs.declared.page.Cell.{Cell}
use Rattle.spe_model.specs.Chain.{IsChain, links}
use Rattle.spe_model.specs.Paging.{Paging}
use Rattle.spe_model.specs.Standing.{chain_pages}
use Rattle.spe_model.specs.Tree.{payload_of, rest_of}
use Rattle.spe_space.specs.declared.pages.Pages.{Ghosts}
use Rattle.spe_space.specs.Calls.{sight}
use Rattle.spe_frame.specs.Held.{Shifts}

-- the cell has this payload, and what of it is not in the cell stands in a chain of new pages
pub record HasPayload {P : Type 0} (g : Ghosts P) (old new : P) (pages : Paging) (c : Cell) (payload : List ℕ) : Type 0 where
  pub chain : IsChain (g.used old) (sight g new pages) (rest_of c) c.chain
  pub whole : payload_of (g.used old) (sight g new pages) c ≡ payload
  pub shifts : Shifts g old new pages [] (chain_pages (g.used old) (sight g new pages) c) (links (g.used old) (length payload))
