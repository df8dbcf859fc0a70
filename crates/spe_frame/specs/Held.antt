-- What a call that writes may touch: pages that some tree or chain has are its own, and pages that are in use elsewhere
-- stay.
use Rattle.std.specs.Prelude.{◌≡◌, ◌≢◌, ◌⊎◌, ℕ, ◌+◌, ◌*◌, ◌<◌, ◌≤◌, false, IsTrue, List, take, drop, length, Some, Result, IfErr}
use Rattle.spe_model.specs.Big.{u32_at}
use Rattle.spe_model.specs.Paging.{Agrees, Paging}
use Rattle.spe_space.specs.declared.pages.Pages.{Ghosts}
use Rattle.spe_space.specs.Calls.{sight}
use Rattle.spe_space.specs.declared.fault.SpaceFault.{SpaceFault}
use Rattle.spe_space.specs.Front.{number_in, list_in}
use Rattle.spe_space.specs.Outcome.{IsSure}
use Rattle.spe_frame.specs.Times.{AreSingle, HoldsOf, Lacks, times}

-- a page in use: there is one, and it is not free
pub record IsUsed {P : Type 0} (g : Ghosts P) (s : P) (pages : Paging) (n : ℕ) : Type 0 where
  pub low : 1 ≤ n
  pub high : n ≤ number_in (sight g s pages)
  pub taken : g.is_free s pages n ≡ false

-- a list of pages stands, page 1 has a header, and the page that it names as the first of the freelist is not free
pub record IsReady {P : Type 0} (g : Ghosts P) (s : P) (pages : Paging) : Type 0 where
  pub stands : g.stands s pages
  pub long : 100 ≤ length (sight g s pages 1)
  pub named : list_in (sight g s pages) ≤ number_in (sight g s pages)
  pub taken : g.is_free s pages (list_in (sight g s pages)) ≡ false

-- these pages are in use, each once, and none is the one that page 1 names as the first of the freelist
pub record AreHeld {P : Type 0} (g : Ghosts P) (s : P) (pages : Paging) (own : List ℕ) : Type 0 where
  pub single : AreSingle own
  pub used : HoldsOf (IsUsed g s pages) own
  pub unnamed : Lacks own (list_in (sight g s pages))

-- a page in use elsewhere
pub record IsOthers {P : Type 0} (g : Ghosts P) (s : P) (pages : Paging) (own : List ℕ) (n : ℕ) : Type 0 where
  pub used : IsUsed g s pages n
  pub lacks : Lacks own n

-- of the first 100 bytes of page 1 only the change counter, the number of pages and the counter's copy may differ
pub record KeepsHead (old new : List ℕ) : Type 0 where
  pub first : take 24 new ≡ take 24 old
  pub middle : take 60 (drop 32 new) ≡ take 60 (drop 32 old)
  pub last : take 4 (drop 96 new) ≡ take 4 (drop 96 old)

-- and all that is behind them is the same
pub record KeepsBody (old new : List ℕ) : Type 0 where
  pub bytes : drop 96 new ≡ drop 96 old
  pub long : length new ≡ length old

-- page 1 names a number of pages, and its change counter stands at both places: so the number counts
pub record IsCounted (front : List ℕ) : Type 0 where
  pub some : 1 ≤ u32_at front 28
  pub copied : u32_at front 24 ≡ u32_at front 92

-- the space's sizes stay
pub record KeepsSizes {P : Type 0} (g : Ghosts P) (old new : P) : Type 0 where
  pub size : g.size new ≡ g.size old
  pub used : g.used new ≡ g.used old
  pub limit : g.limit new ≡ g.limit old

-- Whatever comes of a call with these pages of its own, and so many allocations at most: nothing is given or put that is
-- in use elsewhere, page 1 apart, of which nothing else changes either; its number of pages counts if it did, is the same
-- or within the space's limit, and rises by 16 an allocation at most.
pub record Spares {P : Type 0} (g : Ghosts P) (old new : P) (pages : Paging) (own : List ℕ) (allocs : ℕ) : Type 0 where
  pub seen : (n : ℕ) → IsOthers g old pages own n → n ≢ 1 → g.seen new n ≡ g.seen old n
  pub laid : (n : ℕ) → IsOthers g old pages own n → n ≢ 1 → g.laid new n ≡ g.laid old n
  pub head : KeepsHead (sight g old pages 1) (sight g new pages 1)
  pub body : Lacks own 1 → KeepsBody (sight g old pages 1) (sight g new pages 1)
  pub counted : IsCounted (sight g old pages 1) → IsCounted (sight g new pages 1)
  pub bound : (number_in (sight g new pages) ≡ number_in (sight g old pages)) ⊎ (number_in (sight g new pages) ≤ g.limit old)
  pub few : number_in (sight g new pages) ≤ number_in (sight g old pages) + 16 * allocs
  pub sizes : KeepsSizes g old new

-- a page at hand: it is free, or one of these
abbrev pub IsAtHand : {P : Type 0} (g : Ghosts P) (s : P) → Paging → (own : List ℕ) (n : ℕ) → Type 0
IsAtHand g s pages own n = IsTrue (g.is_free s pages n) ⊎ (0 < times n own)

-- What comes of a call that ends well with other pages of its own, and so many allocations: pages in use elsewhere are so
-- still, the new pages are held where the old ones were, and no page that was at hand, or is new, is lost.
pub record Shifts {P : Type 0} (g : Ghosts P) (old new : P) (pages : Paging) (own own' : List ℕ) (allocs : ℕ) : Type 0 where
  pub spares : Spares g old new pages own allocs
  pub others : (n : ℕ) → IsOthers g old pages own n → IsOthers g new pages own' n
  pub front : Lacks own 1 → Lacks own' 1
  pub held : AreHeld g old pages own → AreHeld g new pages own'
  pub ready : IsReady g new pages
  pub more : number_in (sight g old pages) ≤ number_in (sight g new pages)
  pub found : (n : ℕ) → IsAtHand g old pages own n → IsAtHand g new pages own' n
  pub added : (n : ℕ) → number_in (sight g old pages) < n → n ≤ number_in (sight g new pages) → IsAtHand g new pages own' n

-- whatever the pages are below the space, as long as they agree with what was given and these are held among them
abbrev pub WhereHeld : {P : Type 0} (g : Ghosts P) (old new : P) (own : List ℕ) → (Paging → Type 0) → Type 0
WhereHeld g old new own What = (pages : Paging) → Agrees pages (g.seen new) → IsReady g old pages → AreHeld g old pages own → What pages

-- bytes for page 1 have its header
abbrev pub HasHead : (page : ℕ) (front bytes : List ℕ) → Type 0
HasHead page front bytes = page ≡ 1 → take 100 bytes ≡ take 100 front

-- a page is put and all others stay
pub record Puts {P : Type 0} (g : Ghosts P) (old new : P) (page : ℕ) (bytes : List ℕ) : Type 0 where
  pub there : g.laid new page ≡ Some bytes
  pub others : (n : ℕ) → n ≢ page → g.laid new n ≡ g.laid old n

-- a fault that is likely with pages in order: nothing is corrupt, and a page that is asked for in vain is one that there is
abbrev pub IsLikely : {P X : Type 0} (g : Ghosts P) (s : P) → Paging → Result X SpaceFault → Type 0
IsLikely g s pages result = IfErr result (IsSure (number_in (sight g s pages)))
