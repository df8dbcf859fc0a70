-- Walking over the tree of an index.
use Rattle.std.specs.Prelude.{◌≡◌, ℕ, ◌-◌, List, Option, Some, None, Result, Ok, IfOk}
use Rattle.spe_model.specs.declared.page.Cell.{Cell}
use Rattle.spe_model.specs.declared.page.PageCells.{PageCells}
use Rattle.spe_model.specs.Paging.{Paging}
use Rattle.spe_model.specs.Tree.{node_at}
use Rattle.spe_model.specs.Walk.{Mark, cell_chain, chains_marks, first_child, index_fan_marks, index_marks, levels_at_leaf}
use Rattle.spe_space.specs.declared.pages.Pages.{Ghosts}
use Rattle.spe_check.specs.declared.met.Met.{Met}
use Rattle.spe_check.specs.declared.halt.Halt.{Halt}
use Rattle.spe_check.specs.MetPages.{has_met}
use Rattle.spe_check.specs.Pages.{IsStand, behind_read}
use Rattle.spe_check.specs.Shown.{Each}
use Rattle.spe_check.specs.Tries.{Leads, Tries}

-- how many levels are left at the first leaf
abbrev pub level_of : Option ℕ → (levels : ℕ) → ℕ
level_of (Some level) levels = level
level_of None levels = levels

abbrev pub TriesCell : {P X : Type 0} (g : Ghosts P) (late : P) (before after : Met) (page : ℕ) → Cell → Result X Halt → Type 0
TriesCell g late before after page c result =
    Each g late (λ usable pages. Tries before.pages (has_met before) (has_met after) (cell_chain usable pages page c) result)

abbrev pub TriesChains : {P X : Type 0} (g : Ghosts P) (late : P) (before after : Met) (page : ℕ) → List Cell → Result X Halt → Type 0
TriesChains g late before after page cells result =
    Each g late (λ usable pages. Tries before.pages (has_met before) (has_met after) (chains_marks usable pages page cells) result)

abbrev pub TriesIndex : {P : Type 0} (g : Ghosts P) (late : P) (before after : Met) (leaf : Option ℕ) (levels holder page : ℕ) → Result ℕ Halt → Type 0
TriesIndex g late before after leaf levels holder page result =
    Each g late (λ usable pages. (stand : ℕ) → IsStand leaf stand (levels_at_leaf usable pages levels page)
    → Tries before.pages (has_met before) (has_met after) (index_marks usable pages stand levels holder page) result × IfOk result (λ level. stand ≡ level))

-- the same, from a page on that was read and holds this
abbrev pub TriesIndexFrom : {P : Type 0} (g : Ghosts P) (late : P) (before after : Met) (leaf : Option ℕ) (levels page : ℕ) → PageCells → Result ℕ Halt → Type 0
TriesIndexFrom g late before after leaf levels page node result =
    Each g late (λ usable pages. (stand holder : ℕ) → node_at usable pages page ≡ Ok node → IsStand leaf stand (levels_at_leaf usable pages levels page)
    → Tries before.pages (has_met before) (has_met after) (behind_read (index_marks usable pages stand levels holder page)) result × IfOk result (λ level. stand ≡ level))

-- in the loop over the children: what was tried, what is left, and where the first leaf stands
pub record IsFanned (usable : ℕ) (pages : Paging) (before now : Met) (all : List Mark) (stand levels page : ℕ) (leaf : Option ℕ) (left : List Cell) (right : ℕ) : Type 0 where
  pub tried : Leads before.pages (has_met before) all (has_met now)
      (index_fan_marks (index_marks usable pages stand (levels - 1)) usable pages page left right)
  pub stands : IsStand leaf stand (levels_at_leaf usable pages (levels - 1) (first_child left right))
