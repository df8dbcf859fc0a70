-- Trying a page of a tree.
use Rattle.std.specs.Prelude.{◌≡◌, ℕ, ◌<◌, ◌==◌, ◌&&◌, ◌||◌, not, Bool, true, false, List, [], ◌∷◌, Option, Some, None, Result, Ok, Err, IfOk, drop, if◌then◌else◌}
use Rattle.spe_model.specs.declared.page.Kind.{Kind}
use Rattle.spe_model.specs.declared.page.PageCells.{PageCells}
use Rattle.spe_model.specs.declared.page.PageFault.{PageFault}
use Rattle.spe_model.specs.Kind.{is_leaf, is_table}
use Rattle.spe_model.specs.Paging.{Paging}
use Rattle.spe_model.specs.Schema.{is_index_page}
use Rattle.spe_model.specs.Tree.{node_at}
use Rattle.spe_model.specs.Walk.{Mark, Names, Keeps, is_legal}
use Rattle.spe_space.specs.declared.pages.Pages.{Ghosts}
use Rattle.spe_check.specs.declared.met.Met.{Met}
use Rattle.spe_model.specs.declared.page.PageFault.TheVariants.{Memory}
use Rattle.spe_space.specs.declared.fault.SpaceFault.TheVariants as spaces
use Rattle.spe_check.specs.declared.halt.Halt.{Halt}
use Rattle.spe_check.specs.declared.halt.Halt.TheVariants.{Broken, Space}
use Rattle.spe_check.specs.MetPages.{has_met}
use Rattle.spe_check.specs.Shown.{Each}
use Rattle.spe_check.specs.Tries.{Tries}

abbrev pub is_of_sort : (table : Bool) → Kind → Bool
is_of_sort table kind = if table then is_table kind else not (is_table kind)

-- a page stands well where levels are left, and a leaf where the first one stood
abbrev pub is_placed : (levels stand : ℕ) → Kind → Bool
is_placed levels stand kind = not (levels == 0) && (not (is_leaf kind) || (levels == stand))

-- the same, as far as a first leaf was met
abbrev pub stands_well : Option ℕ → (levels : ℕ) → Kind → Bool
stands_well (Some level) levels kind = is_placed levels level kind
stands_well None levels kind = not (levels == 0)

-- where the first leaf stands: as it was met, or else as it is seen from here on
abbrev pub IsStand : Option ℕ → (stand first : ℕ) → Type 0
IsStand (Some level) stand first = stand ≡ level
IsStand None stand first = stand ≡ first

abbrev pub place_marks : (table : Bool) (levels stand page : ℕ) → Kind → List Mark
place_marks table levels stand page kind = Keeps page 4 (is_of_sort table kind) ∷ Keeps page 5 (is_placed levels stand kind) ∷ []

abbrev pub TriesPlace : (table : Bool) (leaf : Option ℕ) (levels page : ℕ) (kind : Kind) → Result (Unit {0}) Halt → Type 0
TriesPlace table leaf levels page kind result =
    (count : ℕ) (met : ℕ → Bool) (stand first : ℕ) → IsStand leaf stand first → (is_leaf kind ≡ true → 0 < levels → first ≡ levels)
    → Tries count met met (place_marks table levels stand page kind) result

abbrev pub read_marks : (usable : ℕ) (pages : Paging) (holder page : ℕ) → List Mark
read_marks usable pages holder page = Names holder page ∷ Keeps page 3 (is_legal (node_at usable pages page)) ∷ []

abbrev pub TriesRead : {P : Type 0} (g : Ghosts P) (late : P) (before after : Met) (holder page : ℕ) → Result PageCells Halt → Type 0
TriesRead g late before after holder page result =
    Each g late (λ usable pages. Tries before.pages (has_met before) (has_met after) (read_marks usable pages holder page) result
    × IfOk result (λ node. node_at usable pages page ≡ Ok node))

-- whether the page is one of an index is seen from its kind
abbrev pub TellsSort : {P : Type 0} (g : Ghosts P) (late : P) (page : ℕ) → Result PageCells Halt → Type 0
TellsSort g late page result = Each g late (λ usable pages. IfOk result (λ node. is_index_page pages page ≡ not (is_table node.kind)))

-- what is tried of a tree behind the marks of reading its first page
abbrev pub behind_read : List Mark → List Mark
behind_read marks = drop 2 marks

-- why a page could not be read
abbrev pub IsHaltOf : (page : ℕ) → PageFault → Halt → Type 0
IsHaltOf page Memory halt = halt ≡ Space spaces.Memory
IsHaltOf page _ halt = halt ≡ Broken page 3

-- what reading a page gives
abbrev pub IsReading : (page : ℕ) → Result PageCells PageFault → Result PageCells Halt → Type 0
IsReading page reading (Ok node) = reading ≡ Ok node
IsReading page reading (Err (Broken at rule)) = (at ≡ page) × (rule ≡ 3) × (is_legal reading ≡ false)
IsReading page reading (Err (Space f)) = f ≡ spaces.Memory
