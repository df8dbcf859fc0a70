-- Framed pages as a space shows them, and how they stay so.
use Rattle.std.specs.Prelude.{◌≡◌, ◌⊎◌, ℕ, ◌<◌, List, [], ◌∷◌, ◌++◌, All, IsTrue}
use Rattle.spe_model.specs.declared.header.Header.{Header}
use Rattle.spe_model.specs.Paging.{Paging}
use Rattle.spe_model.specs.Served.{Framed, HasHeader, IsGrown, IsPrepared, Root, usable_in}
use Rattle.spe_model.specs.Standing.{AreDistinct, AreFree, FreeChain, IsOneOf, Tree, pages_of_tree}
use Rattle.spe_space.specs.declared.pages.Pages.{Ghosts}
use Rattle.spe_space.specs.Calls.{sight}
use Rattle.spe_space.specs.Front.{list_in, number_in}
use Rattle.spe_frame.specs.Held.{IsReady, Shifts}
use Rattle.spe_frame.specs.Laws.{Forest, HaveFirst}
use Rattle.spe_frame.specs.Pick.{Picked}
use Rattle.spe_frame.specs.Times.{times}

-- Pages that are framed for some roots, with the space's own free pages in the place of the lists that page 1 names.
pub record FramedIn {P : Type 0} (g : Ghosts P) (s : P) (pages : Paging) (roots : List Root) : Type 0 where
  pub header : Header
  pub front : HasHeader (number_in (sight g s pages)) (sight g s pages) header
  pub size : header.page_size ≡ g.size s
  pub used : usable_in header ≡ g.used s
  pub prepared : IsPrepared (sight g s pages)
  pub ready : IsReady g s pages
  pub first : HaveFirst [] roots
  pub trees : List Tree
  pub forest : Forest g s pages [] roots trees

-- where the tree of one root was changed into a tree again, all pages are framed as before
abbrev pub FrameStays : {P : Type 0} (g : Ghosts P) → Type 0
FrameStays {P = P} g = (old new : P) (pages : Paging) (before : List Root) (root : Root) (after : List Root) (tree : Tree) (allocs : ℕ)
    → FramedIn g old pages (before ++ root ∷ after) → (picked : Picked g old pages before root after)
    → Shifts g old new pages (pages_of_tree (g.used old) (sight g old pages) picked.tree) (pages_of_tree (g.used new) (sight g new pages) tree) allocs
    → IsGrown (g.used new) (sight g new pages) root tree → FramedIn g new pages (before ++ root ∷ after)

-- the lists that page 1 names are whole, and they and the node are the space's free pages
pub record ListsAreFree {P : Type 0} (g : Ghosts P) (s : P) (pages : Paging) (lists : List FreeChain) (listed : List ℕ) : Type 0 where
  pub whole : AreFree (g.used s) (sight g s pages) lists listed
  pub distinct : AreDistinct listed
  pub within : All (IsOneOf (number_in (sight g s pages))) listed
  pub free : (n : ℕ) → 0 < times n listed → IsTrue (g.is_free s pages n) ⊎ (n ≡ list_in (sight g s pages))
  pub listed_is : (n : ℕ) → IsTrue (g.is_free s pages n) → 0 < times n listed
  pub node : 0 < times (list_in (sight g s pages)) listed

-- then they are framed by these lists
abbrev pub FrameIsFramed : {P : Type 0} (g : Ghosts P) → Type 0
FrameIsFramed {P = P} g = (s : P) (pages : Paging) (roots : List Root) (lists : List FreeChain) (listed : List ℕ)
    → FramedIn g s pages roots → ListsAreFree g s pages lists listed → Framed (number_in (sight g s pages)) (sight g s pages) roots

-- and pages that are framed by these lists are framed for the space
abbrev pub FramedIsFrame : {P : Type 0} (g : Ghosts P) → Type 0
FramedIsFrame {P = P} g = (s : P) (pages : Paging) (roots : List Root) (framed : Framed (number_in (sight g s pages)) (sight g s pages) roots)
    → framed.header.page_size ≡ g.size s → usable_in framed.header ≡ g.used s → IsReady g s pages
    → ListsAreFree g s pages framed.lists framed.listed → FramedIn g s pages roots
