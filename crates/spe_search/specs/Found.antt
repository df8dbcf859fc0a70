-- What a search in a space answers, whatever the pages below the space are, as long as they agree with all that was given.
use Rattle.std.specs.Prelude.{◌≡◌, ◌⊎◌, ℕ, zero, suc, ℤ, ◌<◌, ◌≤◌, List, ◌++◌, take, Option, Some, Result, Ok, Err}
use Rattle.spe_model.specs.declared.page.Cell.{Cell}
use Rattle.spe_model.specs.Paging.{Paging, Agrees}
use Rattle.spe_model.specs.Chain.{IsChain, chain_bytes, IsAmiss}
use Rattle.spe_model.specs.Tree.{rank, rest_of, header_end, IsTree, IsTableTree, tree_rows, row_at}
use Rattle.spe_space.specs.Calls.{sight}
use Rattle.spe_space.specs.Found.{Answers, EndsWrong}
use Rattle.spe_space.specs.declared.pages.Pages.{Ghosts}
use Rattle.spe_space.specs.declared.fault.TreeFault.{TreeFault}
use Rattle.spe_space.specs.declared.fault.TreeFault.TheVariants.{Space, Corrupt}
use Rattle.spe_format.specs.View.{Shown, shown_at}
use Rattle.spe_search.specs.declared.page.Found.{Found}
use Rattle.spe_search.specs.declared.page.Step.{Step}
use Rattle.spe_search.specs.Step.{HasCell, HasChild, IsNoTable, TakesStep}

abbrev pub used_of : (usable : ℕ) (pages : Paging) (page : ℕ) → List ℕ
used_of usable pages page = take usable (pages page)

-- Below a page, in at most so many levels: where a tree stands there, the answer is the payload of its row with the
-- rowid, or a fault of the space.
abbrev pub FindsBelow : {P : Type 0} (g : Ghosts P) (early late : P) (page : ℕ) (rowid : ℤ) (levels : ℕ) (result : Result (Option (List ℕ)) TreeFault) → Type 0
FindsBelow g early late page rowid levels result =
    (pages : Paging) → Agrees pages (g.seen late)
    → (height low high : ℕ) → height < levels → low ≤ rank rowid → rank rowid < high → IsTree (g.used early) (sight g early pages) height low high page
    → Answers (λ row. row) (row_at rowid (tree_rows (g.used early) (sight g early pages) height page)) result

-- The same of the tree of a table under its root.
abbrev pub FindsPayload : {P : Type 0} (g : Ghosts P) (early late : P) (root : ℕ) (rowid : ℤ) (result : Result (Option (List ℕ)) TreeFault) → Type 0
FindsPayload g early late root rowid result =
    (pages : Paging) → Agrees pages (g.seen late)
    → (height : ℕ) → IsTableTree (g.used early) (sight g early pages) height root
    → Answers (λ row. row) (row_at rowid (tree_rows (g.used early) (sight g early pages) height root)) result

-- the page is no legal page of a table
abbrev pub IsFaulty : (usable : ℕ) (pages : Paging) (page : ℕ) → Type 0
IsFaulty usable pages page = IsNoTable (used_of usable pages page) (header_end page)

-- a page, and what it shows
pub record ShowsCell (usable : ℕ) (pages : Paging) (page : ℕ) (c : Cell) : Type 0 where
  pub shown : Shown
  pub is : shown_at (used_of usable pages page) (header_end page) ≡ Ok shown
  pub has : HasCell shown.cells c

pub record ShowsChild (usable : ℕ) (pages : Paging) (page child : ℕ) : Type 0 where
  pub shown : Shown
  pub is : shown_at (used_of usable pages page) (header_end page) ≡ Ok shown
  pub has : HasChild shown.cells shown.right child

-- `at` is so many levels below a page, each page on the way one that the page before shows as its child
abbrev pub IsBelow : (usable : ℕ) (pages : Paging) (levels page at : ℕ) → Type 0
IsBelow usable pages zero page at = at ≡ page
IsBelow usable pages (suc levels) page at = (child : ℕ) × ShowsChild usable pages page child × IsBelow usable pages levels child at

-- a page on this walk: fewer than so many levels below the first
pub record IsReached (usable : ℕ) (pages : Paging) (levels page at : ℕ) : Type 0 where
  pub depth : ℕ
  pub under : depth < levels
  pub way : IsBelow usable pages depth page at

-- the chain of a row of a leaf goes wrong: the leaf names a first page that is amiss, or a page of the chain a next one
pub record BreaksLeaf (usable : ℕ) (pages : Paging) (leaf at : ℕ) : Type 0 where
  pub row : Cell
  pub shown : ShowsCell usable pages leaf row
  pub how : ((at ≡ leaf) × IsAmiss (rest_of row) row.chain) ⊎ EndsWrong usable pages (rest_of row) row.chain at

-- the same of a leaf on this walk
pub record BreaksRow (usable : ℕ) (pages : Paging) (levels page at : ℕ) : Type 0 where
  pub leaf : ℕ
  pub reached : IsReached usable pages levels page leaf
  pub breaks : BreaksLeaf usable pages leaf at

-- why a page is called corrupt
abbrev pub HasDamage : {X : Type 0} (usable : ℕ) (pages : Paging) (page levels : ℕ) → Result X TreeFault → Type 0
HasDamage usable pages page levels (Ok found) = Unit {0}
HasDamage usable pages page levels (Err (Space f)) = Unit {0}
HasDamage usable pages page levels (Err (Corrupt at)) =
    (IsReached usable pages levels page at × IsFaulty usable pages at) ⊎ (BreaksRow usable pages levels page at ⊎ IsBelow usable pages levels page at)

-- Corrupt comes only where that page is met and breaks a rule, or lies below the last level
abbrev pub NamesDamage : {P X : Type 0} (g : Ghosts P) (early late : P) (page levels : ℕ) (result : Result X TreeFault) → Type 0
NamesDamage g early late page levels result =
    (pages : Paging) → Agrees pages (g.seen late) → HasDamage (g.used early) (sight g early pages) page levels result

abbrev pub IsStep : (usable : ℕ) (pages : Paging) (page : ℕ) (rowid : ℤ) → Result Step TreeFault → Type 0
IsStep usable pages page rowid (Ok step) = TakesStep (used_of usable pages page) (header_end page) rowid (Ok step)
IsStep usable pages page rowid (Err (Space f)) = Unit {0}
IsStep usable pages page rowid (Err (Corrupt at)) = (at ≡ page) × IsFaulty usable pages page

-- where a page leads
abbrev pub GivesStep : {P : Type 0} (g : Ghosts P) (early late : P) (page : ℕ) (rowid : ℤ) (result : Result Step TreeFault) → Type 0
GivesStep g early late page rowid result =
    (pages : Paging) → Agrees pages (g.seen late) → IsStep (g.used early) (sight g early pages) page rowid result

-- the whole of a row
abbrev pub GivesWhole : {P : Type 0} (g : Ghosts P) (early late : P) (found : Found) (result : Result (Option (List ℕ)) TreeFault) → Type 0
GivesWhole g early late found result =
    (pages : Paging) → Agrees pages (g.seen late) → IsChain (g.used early) (sight g early pages) found.rest found.chain
    → Answers (λ row. row) (Some (found.local ++ chain_bytes (g.used early) (sight g early pages) found.rest found.chain)) result

abbrev pub HasRowBreak : {X : Type 0} (usable : ℕ) (pages : Paging) (page : ℕ) (found : Found) → Result X TreeFault → Type 0
HasRowBreak usable pages page found (Ok x) = Unit {0}
HasRowBreak usable pages page found (Err (Space f)) = Unit {0}
HasRowBreak usable pages page found (Err (Corrupt at)) = ((at ≡ page) × IsAmiss found.rest found.chain) ⊎ EndsWrong usable pages found.rest found.chain at

abbrev pub NamesRow : {P X : Type 0} (g : Ghosts P) (early late : P) (page : ℕ) (found : Found) (result : Result X TreeFault) → Type 0
NamesRow g early late page found result =
    (pages : Paging) → Agrees pages (g.seen late) → HasRowBreak (g.used early) (sight g early pages) page found result
