-- What is put when a page is taken from a free list or given to it, by the bytes of its first trunk.
use Rattle.std.specs.Prelude.{◌≡◌, ◌≢◌, ◌⊎◌, ℕ, ◌+◌, ◌-◌, ◌*◌, ◌^◌, ◌<◌, ◌≤◌, List, [], ◌∷◌, ◌++◌, drop, replicate, Some}
use Rattle.spe_model.specs.Big.{u32_at}
use Rattle.spe_model.specs.FreeList.{leaf_count, leaves_of, next_trunk}
use Rattle.spe_model.specs.Paging.{Agrees, Paging}
use Rattle.spe_space.specs.declared.fault.SpaceFault.{SpaceFault}
use Rattle.spe_space.specs.declared.fault.SpaceFault.TheVariants.{Full, Memory}
use Rattle.spe_space.specs.declared.fault.TreeFault.{TreeFault}
use Rattle.spe_space.specs.declared.fault.TreeFault.TheVariants.{Space, Corrupt}
use Rattle.spe_space.specs.declared.pages.Pages.{Ghosts}
use Rattle.spe_space.specs.Calls.{sight}
use Rattle.spe_space.specs.Free.{IsNew}
use Rattle.spe_space.specs.Front.{SpoilsGrowth, number_in, recounted}
use Rattle.spe_space.specs.Outcome.{Fits, FitsExtend, FitsGet, FitsPut, OnCorrupt}
use Rattle.spe_space.specs.Space.{FrontStays, number_before}
use Rattle.spe_freelist.specs.Trunk.{IsTrunk, fifteen, full_leaves, leaves_at, most_leaves}

-- a trunk is put, and nothing else
pub record PutsTrunk {P : Type 0} (g : Ghosts P) (old new : P) (trunk next : ℕ) (leaves reserved : List ℕ) : Type 0 where
  pub bytes : List ℕ
  pub there : g.laid new trunk ≡ Some bytes
  pub is : IsTrunk (g.used old) next leaves reserved bytes
  pub others : (n : ℕ) → n ≢ trunk → g.laid new n ≡ g.laid old n

-- the reserved bytes of a page
abbrev pub reserved_in : {P : Type 0} (g : Ghosts P) (s : P) → Paging → (page : ℕ) → List ℕ
reserved_in g s pages page = drop (g.used s) (sight g s pages page)

-- the last leaf of the first trunk is handed out
pub record TakesLeaf {P : Type 0} (g : Ghosts P) (old new : P) (pages : Paging) (first page : ℕ) : Type 0 where
  pub some : 0 < leaf_count (sight g old pages) first
  pub room : leaf_count (sight g old pages) first ≤ most_leaves (g.used old)
  pub page_is : page ≡ u32_at (sight g old pages first) (4 + 4 * leaf_count (sight g old pages) first)
  pub put : PutsTrunk g old new first (next_trunk (sight g old pages) first)
      (leaves_at (sight g old pages first) (leaf_count (sight g old pages) first - 1)) (reserved_in g old pages first)

-- the trunk behind it is handed out
pub record TakesTrunk {P : Type 0} (g : Ghosts P) (old new : P) (pages : Paging) (first page : ℕ) : Type 0 where
  pub none : leaf_count (sight g old pages) first ≡ 0
  pub page_is : page ≡ next_trunk (sight g old pages) first
  pub some : 0 < page
  pub room : leaf_count (sight g old pages) page ≤ most_leaves (g.used old)
  pub put : PutsTrunk g old new first (next_trunk (sight g old pages) page) (leaves_of (sight g old pages) page) (reserved_in g old pages first)

-- sixteen pages are added, and a trunk is put
pub record Grows {P : Type 0} (g : Ghosts P) (old new : P) (pages : Paging) (first page : ℕ) (reserved : List ℕ) : Type 0 where
  pub bytes : List ℕ
  pub there : g.laid new first ≡ Some bytes
  pub is : IsTrunk (g.used old) 0 (fifteen page) reserved bytes
  pub front : first ≢ 1 → g.laid new 1 ≡ Some (recounted (page + 15) (sight g old pages 1))
  pub zeros : (n : ℕ) → n ≢ first → IsNew page n → g.laid new n ≡ Some (replicate (g.size old) 0)
  pub others : (n : ℕ) → n ≢ first → n ≢ 1 → (IsNew page n → ⊥) → g.laid new n ≡ g.laid old n
  pub numbered : g.stands old pages → page ≡ number_in (sight g old pages) + 1
  pub small : page + 15 < 2 ^ 32
  pub above : g.count old < page
  pub counted : g.count new ≡ page + 15

-- the first of them is handed out, and the others are its leaves
pub record TakesNew {P : Type 0} (g : Ghosts P) (old new : P) (pages : Paging) (first page : ℕ) : Type 0 where
  pub none : leaf_count (sight g old pages) first ≡ 0
  pub last : next_trunk (sight g old pages) first ≡ 0
  pub grown : Grows g old new pages first page (reserved_in g old pages first)

abbrev pub Took : {P : Type 0} (g : Ghosts P) (old new : P) → Paging → (first page : ℕ) → Type 0
Took g old new pages first page = TakesLeaf g old new pages first page ⊎ (TakesTrunk g old new pages first page ⊎ TakesNew g old new pages first page)

-- a call that fails leaves all pages as they were, but for sixteen more
pub record LeavesAlone {P : Type 0} (g : Ghosts P) (old new : P) (pages : Paging) : Type 0 where
  pub front : FrontStays g old new pages
  pub counted : (g.laid new 1 ≡ g.laid old 1) ⊎ (number_before g old pages + 16 ≤ g.count new)
  pub others : (n : ℕ) → n ≢ 1 → n ≤ number_before g old pages → g.laid new n ≡ g.laid old n

-- what of a trunk keeps a page from being taken: it has too many leaves, or its last leaf is page 0
abbrev pub IsFaulty : (usable : ℕ) → Paging → (trunk : ℕ) → Type 0
IsFaulty usable pages trunk =
    (most_leaves usable < leaf_count pages trunk)
    ⊎ ((0 < leaf_count pages trunk) × (u32_at (pages trunk) (4 + 4 * leaf_count pages trunk) ≡ 0))

-- the damaged page is the first trunk, or the one behind it where the first has no leaf
abbrev pub IsDamaged : (usable : ℕ) → Paging → (first at : ℕ) → Type 0
IsDamaged usable pages first at =
    ((at ≡ first) × IsFaulty usable pages first)
    ⊎ ((leaf_count pages first ≡ 0) × (at ≡ next_trunk pages first) × (0 < at) × (most_leaves usable < leaf_count pages at))

-- the pages that are read when a page is taken: the first trunk, the one behind it where the first has no leaf, and page 1
-- where there is none
abbrev pub IsTrunkOf : Paging → (first n : ℕ) → Type 0
IsTrunkOf pages first n =
    (n ≡ first)
    ⊎ (((leaf_count pages first ≡ 0) × (n ≡ next_trunk pages first) × (0 < n))
    ⊎ ((leaf_count pages first ≡ 0) × (next_trunk pages first ≡ 0) × (n ≡ 1)))

-- what holds of a fault of the space, and what of a damaged page
abbrev pub OnFault : (SpaceFault → Type 0) → (ℕ → Type 0) → TreeFault → Type 0
OnFault Why Damaged (Space f) = Why f
OnFault Why Damaged (Corrupt at) = Damaged at

-- why sixteen pages may not be added
pub record GrowsNot {P : Type 0} (g : Ghosts P) (old new : P) (fault : SpaceFault) : Type 0 where
  pub fits : Fits (g.sealed old) (g.count new) (FitsExtend (g.count new) (g.limit old)) fault
  pub corrupt : OnCorrupt (SpoilsGrowth (g.told old) (g.seen new) (g.laid old) (g.count new + 16)) fault

-- a trunk can't be read: the first, or the one behind it where the first has no leaf
abbrev pub MissesTrunk : {P : Type 0} (g : Ghosts P) (old new : P) (first : ℕ) → SpaceFault → Type 0
MissesTrunk g old new first fault =
    FitsGet (g.count new) first fault
    ⊎ ((pages : Paging) → Agrees pages (g.seen new)
    → (0 < next_trunk (sight g old pages) first) × FitsGet (g.count new) (next_trunk (sight g old pages) first) fault)

-- why a page may not be taken, Memory apart: a trunk can't be read, the first trunk can't be put, or no page may be added
abbrev pub TakesNot : {P : Type 0} (g : Ghosts P) (old new : P) (first : ℕ) → SpaceFault → Type 0
TakesNot g old new first fault =
    (fault ≡ Memory)
    ⊎ (MissesTrunk g old new first fault
    ⊎ (Fits (g.sealed old) (g.count new) (FitsPut (g.count new) first) fault
    ⊎ ((pages : Paging) → Agrees pages (g.seen new)
    → (leaf_count (sight g old pages) first ≡ 0) × (next_trunk (sight g old pages) first ≡ 0) × GrowsNot g old new fault)))

-- a page is put as the trunk behind the first one, with its leaves, and the first without them
pub record PutsTrunks {P : Type 0} (g : Ghosts P) (old new : P) (first page next : ℕ) (leaves reserved : List ℕ) : Type 0 where
  pub bytes : List ℕ
  pub there : page ≢ first → g.laid new page ≡ Some bytes
  pub is : IsTrunk (g.used old) next leaves (replicate (g.size old - g.used old) 0) bytes
  pub head : List ℕ
  pub first_there : g.laid new first ≡ Some head
  pub first_is : IsTrunk (g.used old) page [] reserved head
  pub others : (n : ℕ) → n ≢ first → n ≢ page → g.laid new n ≡ g.laid old n

-- the page is the last leaf of the first trunk
pub record GivesLeaf {P : Type 0} (g : Ghosts P) (old new : P) (pages : Paging) (first page : ℕ) : Type 0 where
  pub room : leaf_count (sight g old pages) first < full_leaves (g.used old)
  pub put : PutsTrunk g old new first (next_trunk (sight g old pages) first)
      (leaves_of (sight g old pages) first ++ page ∷ []) (reserved_in g old pages first)

-- the page is the trunk behind it
pub record GivesTrunk {P : Type 0} (g : Ghosts P) (old new : P) (pages : Paging) (first page : ℕ) : Type 0 where
  pub full : full_leaves (g.used old) ≤ leaf_count (sight g old pages) first
  pub room : leaf_count (sight g old pages) first ≤ most_leaves (g.used old)
  pub put : PutsTrunks g old new first page (next_trunk (sight g old pages) first)
      (leaves_of (sight g old pages) first) (reserved_in g old pages first)

abbrev pub Gave : {P : Type 0} (g : Ghosts P) (old new : P) → Paging → (first page : ℕ) → Type 0
Gave g old new pages first page = GivesLeaf g old new pages first page ⊎ GivesTrunk g old new pages first page

-- why a page may not be given, Memory apart: the first trunk can't be read, or it or the page can't be put
abbrev pub GivesNot : {P : Type 0} (g : Ghosts P) (old new : P) (first page : ℕ) → SpaceFault → Type 0
GivesNot g old new first page fault =
    (fault ≡ Memory)
    ⊎ (FitsGet (g.count new) first fault
    ⊎ (Fits (g.sealed old) (g.count new) (FitsPut (g.count new) page) fault
    ⊎ Fits (g.sealed old) (g.count new) (FitsPut (g.count new) first) fault))

-- the first trunk has no leaf, and names no trunk behind it
abbrev pub HasNone : Paging → (first : ℕ) → Type 0
HasNone pages first = (leaf_count pages first ≡ 0) × (next_trunk pages first ≡ 0)

-- what holds of the number that Full names
abbrev pub OnFullOf : (ℕ → Type 0) → SpaceFault → Type 0
OnFullOf What (Full pages) = What pages
OnFullOf What _ = Unit {0}
