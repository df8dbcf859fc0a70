-- Laws of changes: they follow one another, and they leave all other trees as they are.
use Rattle.std.specs.Prelude.{◌≡◌, ◌⊎◌, ℕ, ◌+◌, ◌<◌, ◌≤◌, List, [], ◌∷◌, ◌++◌, map}
use Rattle.std.specs.List.{flat_map}
use Rattle.spe_model.specs.Paging.{Agrees, Paging}
use Rattle.spe_model.specs.Served.{AreGrown, Root}
use Rattle.spe_model.specs.Standing.{Tree, pages_of_tree}
use Rattle.spe_model.specs.Tree.{tree_rows}
use Rattle.spe_space.specs.declared.pages.Pages.{Ghosts}
use Rattle.spe_space.specs.Calls.{Reads, sight}
use Rattle.spe_frame.specs.Times.{AreSame, times}
use Rattle.spe_frame.specs.Held.{AreHeld, IsReady, Shifts, Spares}

-- nothing changes
abbrev pub ShiftsNone : {P : Type 0} (g : Ghosts P) → Type 0
ShiftsNone {P = P} g = (s : P) (pages : Paging) (own : List ℕ) → IsReady g s pages → Shifts g s s pages own own 0

-- gets change nothing, where each page that they give is one of those at hand
abbrev pub ReadsShift : {P : Type 0} (g : Ghosts P) → Type 0
ReadsShift {P = P} g = (old new : P) (pages : Paging) (own : List ℕ) → Agrees pages (g.seen new) → IsReady g old pages → Reads g old new
    → ((n : ℕ) → (g.seen new n ≡ g.seen old n) ⊎ (0 < times n own)) → Shifts g old new pages own own 0

-- changes after changes
abbrev pub ShiftsBoth : {P : Type 0} (g : Ghosts P) → Type 0
ShiftsBoth {P = P} g = (a b c : P) (pages : Paging) (xs ys zs : List ℕ) (m n : ℕ)
    → Shifts g a b pages xs ys m → Shifts g b c pages ys zs n → Shifts g a c pages xs zs (m + n)

-- a change and then a call that fails
abbrev pub SparesBoth : {P : Type 0} (g : Ghosts P) → Type 0
SparesBoth {P = P} g = (a b c : P) (pages : Paging) (xs ys : List ℕ) (m n : ℕ)
    → Shifts g a b pages xs ys m → Spares g b c pages ys n → Spares g a c pages xs (m + n)

-- with room for more allocations
abbrev pub SparesMore : {P : Type 0} (g : Ghosts P) → Type 0
SparesMore {P = P} g = (old new : P) (pages : Paging) (xs : List ℕ) (m n : ℕ) → m ≤ n → Spares g old new pages xs m → Spares g old new pages xs n

-- the same change beside more pages
abbrev pub ShiftsBeside : {P : Type 0} (g : Ghosts P) → Type 0
ShiftsBeside {P = P} g = (old new : P) (pages : Paging) (xs ys more : List ℕ) (n : ℕ)
    → Shifts g old new pages xs ys n → Shifts g old new pages (xs ++ more) (ys ++ more) n

abbrev pub SparesBeside : {P : Type 0} (g : Ghosts P) → Type 0
SparesBeside {P = P} g = (old new : P) (pages : Paging) (xs more : List ℕ) (n : ℕ) → Spares g old new pages xs n → Spares g old new pages (xs ++ more) n

-- pages that are held are held apart
abbrev pub HeldApart : {P : Type 0} (g : Ghosts P) → Type 0
HeldApart {P = P} g = (s : P) (pages : Paging) (xs ys : List ℕ) → AreHeld g s pages (xs ++ ys) → AreHeld g s pages xs × AreHeld g s pages ys

abbrev pub HeldNone : {P : Type 0} (g : Ghosts P) → Type 0
HeldNone {P = P} g = (s : P) (pages : Paging) → AreHeld g s pages []

-- the pages in another order
abbrev pub SparesAlike : {P : Type 0} (g : Ghosts P) → Type 0
SparesAlike {P = P} g = (old new : P) (pages : Paging) (xs xs' : List ℕ) (n : ℕ)
    → AreSame xs xs' → Spares g old new pages xs n → Spares g old new pages xs' n

abbrev pub ShiftsAlike : {P : Type 0} (g : Ghosts P) → Type 0
ShiftsAlike {P = P} g = (old new : P) (pages : Paging) (xs ys xs' ys' : List ℕ) (n : ℕ)
    → AreSame xs xs' → AreSame ys ys' → Shifts g old new pages xs ys n → Shifts g old new pages xs' ys' n

-- each tree has the rows that it had
abbrev pub HaveRows : (usable : ℕ) (old new : Paging) → List Tree → Type 0
HaveRows usable old new [] = Unit {0}
HaveRows usable old new (t ∷ ts) =
    (tree_rows usable new t.height t.root ≡ tree_rows usable old t.height t.root) × HaveRows usable old new ts

-- the trees of some roots are there, and with other pages that are held they have no page twice
pub record Forest {P : Type 0} (g : Ghosts P) (s : P) (pages : Paging) (own : List ℕ) (roots : List Root) (trees : List Tree) : Type 0 where
  pub grown : AreGrown (g.used s) (sight g s pages) roots trees
  pub held : AreHeld g s pages (own ++ flat_map (pages_of_tree (g.used s) (sight g s pages)) trees)

-- these pages, or one of these roots, are page 1
abbrev pub HaveFirst : List ℕ → List Root → Type 0
HaveFirst own roots = 0 < times 1 (own ++ map (λ (r : Root). r.page) roots)

-- all other trees stay: they have the same pages and rows
pub record Stays {P : Type 0} (g : Ghosts P) (old new : P) (pages : Paging) (own' : List ℕ) (roots : List Root) (trees : List Tree) : Type 0 where
  pub forest : Forest g new pages own' roots trees
  pub pages_are : flat_map (pages_of_tree (g.used new) (sight g new pages)) trees ≡ flat_map (pages_of_tree (g.used old) (sight g old pages)) trees
  pub rows : HaveRows (g.used old) (sight g old pages) (sight g new pages) trees

abbrev pub ForestStays : {P : Type 0} (g : Ghosts P) → Type 0
ForestStays {P = P} g = (old new : P) (pages : Paging) (own own' : List ℕ) (allocs : ℕ) (roots : List Root) (trees : List Tree)
    → Shifts g old new pages own own' allocs → HaveFirst own roots
    → Forest g old pages own roots trees → Stays g old new pages own' roots trees
