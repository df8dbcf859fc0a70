-- The pages that a search asks for are pages of its tree and of that tree's chains.
use Rattle.std.specs.Prelude.{ℕ, Result, IfErr}
use Rattle.std.specs.List.{Contains}
use Rattle.spe_model.specs.Paging.{Paging, Agrees}
use Rattle.spe_model.specs.Standing.{all_pages}
use Rattle.spe_model.specs.Tree.{IsTableTree}
use Rattle.spe_space.specs.Calls.{sight}
use Rattle.spe_space.specs.Found.{OnMissing}
use Rattle.spe_space.specs.declared.pages.Pages.{Ghosts}
use Rattle.spe_space.specs.declared.fault.TreeFault.{TreeFault}

-- where a table's tree stands, a page that is asked for and is none of the space's is one of the tree and its chains
abbrev pub MissesTree : {P X : Type 0} (g : Ghosts P) (early late : P) (root : ℕ) (result : Result X TreeFault) → Type 0
MissesTree g early late root result =
    (pages : Paging) → Agrees pages (g.seen late) → (height : ℕ) → IsTableTree (g.used early) (sight g early pages) height root
    → IfErr result (OnMissing (Contains (all_pages (g.used early) (sight g early pages) height root)))
