-- Chains of overflow pages that a call writes or frees, at a bound `P: Pages`.
use Rattle.std.specs.Prelude.{◌≡◌, ℕ, ◌+◌, ◌-◌, List, [], ◌∷◌, ◌++◌, drop, replicate, length, Result, Ok, Err, IfErr}
use Rattle.byteorder.specs.Endian.{big_bytes}
use Rattle.spe_model.specs.Chain.{AreLinks, IsAmiss, IsChain, chain_bytes, links, links_bytes, next_page}
use Rattle.spe_model.specs.Paging.{Agrees, Paging}
use Rattle.spe_model.specs.Standing.{link_pages}
use Rattle.spe_space.specs.declared.fault.TreeFault.{TreeFault}
use Rattle.spe_space.specs.declared.fault.TreeFault.TheVariants.{Space, Corrupt}
use Rattle.spe_space.specs.declared.pages.Pages.{Ghosts}
use Rattle.spe_space.specs.Calls.{sight}
use Rattle.spe_space.specs.Front.{number_in}
use Rattle.spe_space.specs.Outcome.{IsSure}
use Rattle.spe_frame.specs.Held.{AreHeld, IsReady, Shifts}
use Rattle.spe_frame.specs.Times.{Lacks}

-- an overflow page: the number of the next, bytes of the payload, and zeros up to the page's end
abbrev pub link_page : (size next : ℕ) → List ℕ → List ℕ
link_page size next bytes = big_bytes 4 next ++ (bytes ++ replicate (size - (4 + length bytes)) 0)

-- the pages of a chain of so many bytes
abbrev pub pages_of_chain : (usable : ℕ) → Paging → (left first : ℕ) → List ℕ
pages_of_chain usable pages left first = link_pages pages (links usable left) first

-- a fault that is likely with pages in order
abbrev pub IsSureOfTree : ℕ → TreeFault → Type 0
IsSureOfTree number (Space f) = IsSure number f
IsSureOfTree number (Corrupt page) = ⊥

abbrev pub IsLikelyOfTree : {P X : Type 0} (g : Ghosts P) (s : P) → Paging → Result X TreeFault → Type 0
IsLikelyOfTree g s pages result = IfErr result (IsSureOfTree (number_in (sight g s pages)))

-- the bytes stand in a chain, whose pages are new
pub record HasChain {P : Type 0} (g : Ghosts P) (old new : P) (pages : Paging) (bytes : List ℕ) (first : ℕ) : Type 0 where
  pub chain : IsChain (g.used old) (sight g new pages) (length bytes) first
  pub bytes_are : chain_bytes (g.used old) (sight g new pages) (length bytes) first ≡ bytes
  pub shifts : Shifts g old new pages [] (pages_of_chain (g.used old) (sight g new pages) (length bytes) first) (links (g.used old) (length bytes))

-- in a loop: the bytes from a place on stand in so many new pages
pub record IsWritten {P : Type 0} (g : Ghosts P) (old now : P) (pages : Paging) (bytes : List ℕ) (at count first : ℕ) : Type 0 where
  pub chain : AreLinks (g.used old) (sight g now pages) count (length bytes - at) first
  pub bytes_are : links_bytes (g.used old) (sight g now pages) count (length bytes - at) first ≡ drop at bytes
  pub shifts : Shifts g old now pages [] (link_pages (sight g now pages) count first) count

-- a whole chain, whose pages are held and not page 1
pub record IsHeldChain {P : Type 0} (g : Ghosts P) (s : P) (pages : Paging) (left first : ℕ) : Type 0 where
  pub ready : IsReady g s pages
  pub chain : IsChain (g.used s) (sight g s pages) left first
  pub held : AreHeld g s pages (pages_of_chain (g.used s) (sight g s pages) left first)
  pub later : Lacks (pages_of_chain (g.used s) (sight g s pages) left first) 1

abbrev pub WhereChain : {P : Type 0} (g : Ghosts P) (old new : P) (left first : ℕ) → (Paging → Type 0) → Type 0
WhereChain g old new left first What = (pages : Paging) → Agrees pages (g.seen new) → IsHeldChain g old pages left first → What pages

-- in a loop: so many pages of the chain are left, and the others are free
pub record IsLeft {P : Type 0} (g : Ghosts P) (old now : P) (pages : Paging) (all : List ℕ) (left page : ℕ) : Type 0 where
  pub count : ℕ
  pub chain : AreLinks (g.used old) (sight g now pages) count left page
  pub shifts : Shifts g old now pages all (link_pages (sight g now pages) count page) 0

-- a page of a chain is free, and named the next
pub record GivesLink {P : Type 0} (g : Ghosts P) (old new : P) (pages : Paging) (page next : ℕ) : Type 0 where
  pub next_is : next ≡ next_page (sight g old pages) page
  pub shifts : Shifts g old new pages (page ∷ []) [] 0

-- the page's number of the next does not go with the bytes that are left
abbrev pub NamesLink : {P X : Type 0} (g : Ghosts P) (old new : P) (page left : ℕ) → Result X TreeFault → Type 0
NamesLink g old new page left (Ok x) = Unit {0}
NamesLink g old new page left (Err (Space f)) = Unit {0}
NamesLink g old new page left (Err (Corrupt at)) = (at ≡ page) × ((pages : Paging) → Agrees pages (g.seen new) → IsAmiss left (next_page (sight g old pages) page))
