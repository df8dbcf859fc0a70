-- What is read of a node page, whatever the pages below the space are, as long as they agree with all that was given.
use Rattle.std.specs.Prelude.{◌≡◌, ℕ, ◌+◌, ◌*◌, Bool, true, false, not, ◌&&◌, ◌==◌, List, map, Option, Some, None, Result, Ok, Err}
use Rattle.std.specs.List.{list_any}
use Rattle.spe_model.specs.Big.{u32_at}
use Rattle.spe_model.specs.Journal.{numbers_from}
use Rattle.spe_model.specs.FreeList.{first_trunks, is_list_count}
use Rattle.spe_model.specs.Paging.{Paging, Agrees}
use Rattle.spe_space.specs.Calls.{sight}
use Rattle.spe_space.specs.declared.pages.Pages.{Ghosts}
use Rattle.spe_space.specs.declared.fault.TreeFault.{TreeFault}
use Rattle.spe_space.specs.declared.fault.TreeFault.TheVariants.{Space, Corrupt}

-- so many first trunks, as the bytes of a node page name them
abbrev pub firsts : List ℕ → (count : ℕ) → List ℕ
firsts page count = map (λ i. u32_at page (4 + 4 * i)) (numbers_from 0 count)

-- the number of lists is 1 to 16, and no list has page 0 as its first trunk
abbrev pub is_node : List ℕ → Bool
is_node page = is_list_count (u32_at page 0) && not (list_any (λ trunk. trunk == 0) (firsts page (u32_at page 0)))

-- the first trunks where the page is a node page, and its damage where it is not
abbrev pub IsReadOf : Paging → (node : ℕ) → Result (List ℕ) TreeFault → Type 0
IsReadOf pages node (Ok trunks) = (is_node (pages node) ≡ true) × (trunks ≡ first_trunks pages node)
IsReadOf pages node (Err (Space f)) = Unit {0}
IsReadOf pages node (Err (Corrupt page)) = (page ≡ node) × (is_node (pages node) ≡ false)

abbrev pub ReadsNode : {P : Type 0} (g : Ghosts P) (early late : P) (node : ℕ) (result : Result (List ℕ) TreeFault) → Type 0
ReadsNode g early late node result = (pages : Paging) → Agrees pages (g.seen late) → IsReadOf (sight g early pages) node result

-- the same of its bytes
abbrev pub IsNamed : List ℕ → Option (List ℕ) → Type 0
IsNamed page None = is_node page ≡ false
IsNamed page (Some trunks) = (is_node page ≡ true) × (trunks ≡ firsts page (u32_at page 0))
