-- The free lists of a database in server form that a call finds and leaves, at a bound `P: Pages`.
use Rattle.std.specs.Prelude.{◌≡◌, ◌⊎◌, ◌<◌, ℕ, ◌+◌, true, List, ◌∷◌, ◌++◌, take, unwrap_or, All, IsOk, Result, IfErr}
use Rattle.spe_model.specs.FreeList.{names_node}
use Rattle.spe_model.specs.Header.{header_of}
use Rattle.spe_model.specs.Paging.{Paging}
use Rattle.spe_model.specs.Standing.{AreDistinct, FreeChain, IsServer}
use Rattle.spe_frame.specs.Times.{Lacks}
use Rattle.spe_space.specs.declared.fault.TreeFault.{TreeFault}
use Rattle.spe_space.specs.declared.fault.TreeFault.TheVariants.{Space, Corrupt}
use Rattle.spe_space.specs.declared.pages.Pages.{Ghosts}
use Rattle.spe_space.specs.Calls.{sight}
use Rattle.spe_space.specs.Free.{IsLaterPage}
use Rattle.spe_space.specs.Front.{number_in}
use Rattle.spe_space.specs.Outcome.{IsSure}
use Rattle.spe_space.specs.Space.{Each}
use Rattle.spe_freelist.specs.Lists.{Trunk, list_of, next_free, taken}

-- Lists that stand: page 1 has a header that names a node page, there is a whole list for each first trunk that this names,
-- and the node and the pages of all lists are from page 2 to the number of pages, none of them twice.
pub record AreLists (usable : ℕ) (pages : Paging) (lists : List FreeChain) (listed : List ℕ) : Type 0 where
  pub legal : IsOk (header_of (take 100 (pages 1)))
  pub named : names_node (pages 1) ≡ true
  pub whole : IsServer usable pages lists listed
  pub distinct : AreDistinct listed
  pub within : All (IsLaterPage (number_in pages)) listed

-- the list that begins at a page, among the others
pub record Place {P : Type 0} (g : Ghosts P) (s : P) (pages : Paging) (first : ℕ) : Type 0 where
  pub before : List FreeChain
  pub own : FreeChain
  pub after : List FreeChain
  pub listed : List ℕ
  pub first_is : own.first ≡ first
  pub lists : AreLists (g.used s) (sight g s pages) (before ++ own ∷ after) listed

-- whatever the pages are below the space, as long as they agree with what is given after the call and stood before it, and
-- wherever the list stands among them
abbrev pub WhereListed : {P : Type 0} (g : Ghosts P) (old new : P) (first : ℕ) → ((pages : Paging) → Place g old pages first → Type 0) → Type 0
WhereListed g old new first What = Each g old new (λ pages. (place : Place g old pages first) → What pages place)

-- the trunks of the list
abbrev pub trunks_of : {P : Type 0} (g : Ghosts P) (s : P) (pages : Paging) {first : ℕ} → Place g s pages first → List Trunk
trunks_of g s pages place = list_of (sight g s pages) place.own

-- the lists stand again: this list has these trunks now, and all others have those that they had
pub record LeavesLists {P : Type 0} (g : Ghosts P) (old new : P) (pages : Paging) (first : ℕ) (place : Place g old pages first) (trunks : List Trunk) : Type 0 where
  pub own : FreeChain
  pub listed : List ℕ
  pub first_is : own.first ≡ first
  pub lists : AreLists (g.used old) (sight g new pages) (place.before ++ own ∷ place.after) listed
  pub own_is : list_of (sight g new pages) own ≡ trunks
  pub others : All (λ (f : FreeChain). list_of (sight g new pages) f ≡ list_of (sight g old pages) f) (place.before ++ place.after)

-- a page is taken from the list, and no list has it any more
pub record TakesPage {P : Type 0} (g : Ghosts P) (old new : P) (pages : Paging) (first page : ℕ) (place : Place g old pages first) : Type 0 where
  pub left : LeavesLists g old new pages first place (taken (number_in (sight g old pages)) (trunks_of g old pages place))
  pub page_is : page ≡ unwrap_or (next_free (trunks_of g old pages place)) (number_in (sight g old pages) + 1)
  pub gone : Lacks left.listed page

-- the pages that are put when one is taken: the first trunk, page 1, and new pages
abbrev pub IsForTaking : {P : Type 0} (g : Ghosts P) (s : P) → Paging → (first n : ℕ) → Type 0
IsForTaking g s pages first n = (n ≡ first) ⊎ ((n ≡ 1) ⊎ (number_in (sight g s pages) < n))

-- a page that may be given: there is one, and it is not page 1, nor the node, nor in a list
pub record MayBeGiven {P : Type 0} (g : Ghosts P) (s : P) (pages : Paging) (first page : ℕ) (place : Place g s pages first) : Type 0 where
  pub placed : IsLaterPage (number_in (sight g s pages)) page
  pub unlisted : Lacks place.listed page

-- all lists are as they were
abbrev pub ListsStay : {P : Type 0} (g : Ghosts P) (old new : P) (pages : Paging) (first : ℕ) → Place g old pages first → Type 0
ListsStay g old new pages first place = LeavesLists g old new pages first place (trunks_of g old pages place)

-- a fault that is likely with lists that stand: nothing is corrupt, and a page that is asked for in vain is one that there is
abbrev pub IsSureOfTree : ℕ → TreeFault → Type 0
IsSureOfTree number (Space f) = IsSure number f
IsSureOfTree number (Corrupt page) = ⊥

abbrev pub IsLikelyOfTree : {P X : Type 0} (g : Ghosts P) (s : P) → Paging → Result X TreeFault → Type 0
IsLikelyOfTree g s pages result = IfErr result (IsSureOfTree (number_in (sight g s pages)))
