-- Leaves that are written, at a bound `P: Pages`.
use Rattle.std.specs.Prelude.{◌≡◌, ℕ, ◌≤◌, List, [], ◌∷◌, ◌++◌, length, map, All}
use Rattle.std.specs.List.{flat_map}
use Rattle.spe_model.specs.declared.page.Cell.{Cell}
use Rattle.spe_model.specs.declared.page.Kind.TheVariants.{TableLeaf}
use Rattle.spe_model.specs.Paging.{Paging}
use Rattle.spe_space.specs.declared.pages.Pages.{Ghosts}
use Rattle.spe_space.specs.Calls.{sight}
use Rattle.spe_format.specs.Canonical.{IsWritable}
use Rattle.spe_frame.specs.Held.{Shifts}
use Rattle.spe_cut.specs.Leaf.{IsLeaf, Leaf, leaves_cells, leaves_run}
use Rattle.spe_cut.specs.Parts.{leaf_cells, need, room}
use Rattle.spe_cut.specs.Run.{Run}

-- a part that a leaf can have
pub record IsPart (usable : ℕ) (part : List Cell) : Type 0 where
  pub some : 1 ≤ length part
  pub fits : need TableLeaf part ≤ room TableLeaf 0 usable
  pub writable : IsWritable (leaf_cells part) usable

-- each part is on a leaf, and the leaves are one behind the other as a run
pub record LaysParts {P : Type 0} (g : Ghosts P) (old new : P) (pages : Paging) (page : ℕ) (parts : List (List Cell)) (run : Run) : Type 0 where
  pub leaves : List Leaf
  pub end : Leaf
  pub run_is : run ≡ leaves_run leaves end
  pub joined : leaves_cells leaves end ≡ flat_map (λ (part : List Cell). part) parts
  pub are : All (IsLeaf (g.used old) (sight g new pages)) leaves
  pub last : IsLeaf (g.used old) (sight g new pages) end
  pub some : All (λ (l : Leaf). 1 ≤ length l.cells) leaves
  pub ends : 1 ≤ length end.cells
  pub shifts : Shifts g old new pages (page ∷ []) (map (λ (l : Leaf). l.page) leaves ++ (end.page ∷ [])) (length parts)

-- the cells of a leaf are on one leaf, or in parts on up to three
pub record LaysLeaf {P : Type 0} (g : Ghosts P) (old new : P) (pages : Paging) (page : ℕ) (cells : List Cell) (run : Run) : Type 0 where
  pub parts : List (List Cell)
  pub joined : flat_map (λ (part : List Cell). part) parts ≡ cells
  pub few : length parts ≤ 3
  pub lays : LaysParts g old new pages page parts run
