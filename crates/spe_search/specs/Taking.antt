-- The rows of a table that are handed to a taker while its tree is walked, whatever the pages below the space are, as long as
-- they agree with all that was given.
use Rattle.std.specs.Prelude.{◌≡◌, ℕ, suc, ◌<◌, Bool, true, false, List, [], ◌∷◌, ◌++◌, map, drop, Option, Some, Result, Ok, Err, IfErr}
use Rattle.std.specs.List.{Contains}
use Rattle.spe_model.specs.declared.page.Cell.{Cell}
use Rattle.spe_model.specs.Chain.{IsChain, IsLink}
use Rattle.spe_model.specs.Paging.{Paging, Agrees}
use Rattle.spe_model.specs.Standing.{all_pages}
use Rattle.spe_model.specs.Tree.{AreRows, AreUnder, IsTableTree, IsTree, fan, header_end, payload_of, rest_of, rows_of, tree_rows}
use Rattle.spe_space.specs.Calls.{sight}
use Rattle.spe_space.specs.Found.{OnMissing}
use Rattle.spe_space.specs.declared.pages.Pages.{Ghosts}
use Rattle.spe_space.specs.declared.fault.TreeFault.{TreeFault}
use Rattle.spe_space.specs.declared.fault.TreeFault.TheVariants.{Space, Corrupt}
use Rattle.spe_format.specs.View.{Shown, shown_at}
use Rattle.spe_search.specs.declared.pairs.Pair.{Pair}
use Rattle.spe_search.specs.declared.taker.RowTaker as takers
use Rattle.spe_search.specs.Found.{HasDamage, used_of}
use Rattle.spe_search.specs.Leaves.{IsRead, IsRowIn, IsRowOf}
use Rattle.spe_search.specs.Pairs.{pair_seen}
use Rattle.spe_search.specs.Step.{HasCell}

-- some first ones of all
abbrev pub AreFirst : {X : Type 0} → (first all : List X) → Type 0
AreFirst {X} first all = (rest : List X) × (all ≡ first ++ rest)

-- what was taken of all: all, or some first ones where no more were wanted or the space refused; nothing is corrupt
abbrev pub AreTaken : {X : Type 0} → (taken all : List X) → Result Bool TreeFault → Type 0
AreTaken taken all (Ok true) = taken ≡ all
AreTaken taken all (Ok false) = AreFirst taken all
AreTaken taken all (Err (Space f)) = AreFirst taken all
AreTaken taken all (Err (Corrupt page)) = ⊥

-- whether the taker wants more: it was not the taker that ended a walk with a fault
abbrev pub wants_more : Result Bool TreeFault → Bool
wants_more (Ok more) = more
wants_more (Err f) = true

-- it is the space that refused
abbrev pub IsOfSpace : TreeFault → Type 0
IsOfSpace (Space f) = Unit {0}
IsOfSpace (Corrupt page) = ⊥

-- Rows are handed over, of which this is said.
pub record Hands {T W : Type 0} (t : takers.Ghosts T W) (old : T) (before : W) (new : T) (after : W) (result : Result Bool TreeFault) (What : List Pair → Type 0) : Type 0 where
  pub rows : List Pair
  pub taken : t.taken old before new after rows (wants_more result)
  pub are : What rows

abbrev pub Each : (Pair → Type 0) → List Pair → Type 0
Each What rows = (row : Pair) → Contains rows row → What row

-- the row of a cell of this leaf
pub record IsCellTaken (usable : ℕ) (pages : Paging) (page : ℕ) (c : Cell) (result : Result Bool TreeFault) (rows : List Pair) : Type 0 where
  pub found : IsChain usable pages (rest_of c) c.chain → AreTaken (map pair_seen rows) ((c.key, payload_of usable pages c) ∷ []) result
  pub read : Each (IsRowOf usable pages page c) rows

abbrev pub TakesCell : {P : Type 0} (g : Ghosts P) (early late : P) (page : ℕ) → Cell → Result Bool TreeFault → List Pair → Type 0
TakesCell g early late page c result rows =
    (pages : Paging) → Agrees pages (g.seen late) → IsCellTaken (g.used early) (sight g early pages) page c result rows

-- the rows of a leaf that shows these cells
pub record IsLeafTaken (usable : ℕ) (pages : Paging) (page : ℕ) (shown : List (Option Cell)) (result : Result Bool TreeFault) (rows : List Pair) : Type 0 where
  pub found : (cells : List Cell) → shown ≡ map Some cells → (a b : ℕ) → AreRows usable pages a b cells
      → AreTaken (map pair_seen rows) (rows_of usable pages cells) result
  pub read : Each (IsRowIn usable pages page shown) rows

abbrev pub TakesLeaf : {P : Type 0} (g : Ghosts P) (early late : P) (page : ℕ) → List (Option Cell) → Result Bool TreeFault → List Pair → Type 0
TakesLeaf g early late page shown result rows =
    (pages : Paging) → Agrees pages (g.seen late) → IsLeafTaken (g.used early) (sight g early pages) page shown result rows

-- in the loop: the rows before this place
pub record IsLeafUpTo (usable : ℕ) (pages : Paging) (page : ℕ) (shown : List (Option Cell)) (index : ℕ) (rows : List Pair) : Type 0 where
  pub found : (cells : List Cell) → shown ≡ map Some cells → (a b : ℕ) → AreRows usable pages a b cells
      → map pair_seen rows ++ rows_of usable pages (drop index cells) ≡ rows_of usable pages cells
  pub read : Each (IsRowIn usable pages page shown) rows

abbrev pub TakesUpTo : {P : Type 0} (g : Ghosts P) (early now : P) (page : ℕ) → List (Option Cell) → (index : ℕ) → List Pair → Type 0
TakesUpTo g early now page shown index rows =
    (pages : Paging) → Agrees pages (g.seen now) → IsLeafUpTo (g.used early) (sight g early pages) page shown index rows

-- a page that is asked for and is none of the space's is one of the chain of a row that is shown
abbrev pub MissesInLeaf : {P X : Type 0} (g : Ghosts P) (early late : P) → List (Option Cell) → Result X TreeFault → Type 0
MissesInLeaf g early late shown result =
    (pages : Paging) → Agrees pages (g.seen late)
    → IfErr result (OnMissing (λ at. (c : Cell) × HasCell shown c × IsLink (g.used early) (sight g early pages) (rest_of c) c.chain at))

-- the rows below a page in fewer than so many levels
pub record IsTreeTaken (usable : ℕ) (pages : Paging) (page levels : ℕ) (result : Result Bool TreeFault) (rows : List Pair) : Type 0 where
  pub found : (height a b : ℕ) → height < levels → IsTree usable pages height a b page → AreTaken (map pair_seen rows) (tree_rows usable pages height page) result
  pub read : Each (IsRead usable pages levels page) rows

abbrev pub TakesBelow : {P : Type 0} (g : Ghosts P) (early late : P) (page levels : ℕ) → Result Bool TreeFault → List Pair → Type 0
TakesBelow g early late page levels result rows =
    (pages : Paging) → Agrees pages (g.seen late) → IsTreeTaken (g.used early) (sight g early pages) page levels result rows

-- the same of the tree of a table
pub record IsTableTaken (usable : ℕ) (pages : Paging) (root : ℕ) (result : Result Bool TreeFault) (rows : List Pair) : Type 0 where
  pub found : (height : ℕ) → IsTableTree usable pages height root → AreTaken (map pair_seen rows) (tree_rows usable pages height root) result
  pub read : Each (IsRead usable pages 20 root) rows

abbrev pub TakesTable : {P : Type 0} (g : Ghosts P) (early late : P) (root : ℕ) → Result Bool TreeFault → List Pair → Type 0
TakesTable g early late root result rows =
    (pages : Paging) → Agrees pages (g.seen late) → IsTableTaken (g.used early) (sight g early pages) root result rows

-- a page that is asked for and is none of the space's is one of the tree and its chains
abbrev pub MissesBelow : {P X : Type 0} (g : Ghosts P) (early late : P) (page : ℕ) → Result X TreeFault → Type 0
MissesBelow g early late page result =
    (pages : Paging) → Agrees pages (g.seen late) → (height a b : ℕ) → IsTree (g.used early) (sight g early pages) height a b page
    → IfErr result (OnMissing (Contains (all_pages (g.used early) (sight g early pages) height page)))

-- the page shows this
abbrev pub IsShownAt : (usable : ℕ) (pages : Paging) (page : ℕ) → Shown → Type 0
IsShownAt usable pages page shown = shown_at (used_of usable pages page) (header_end page) ≡ Ok shown

-- the rows below the children of a page that shows this
pub record AreChildrenTaken (usable : ℕ) (pages : Paging) (page levels : ℕ) (shown : Shown) (result : Result Bool TreeFault) (rows : List Pair) : Type 0 where
  pub found : (cells : List Cell) → shown.cells ≡ map Some cells → (height a b : ℕ) → suc height < levels → AreUnder (IsTree usable pages height) a b cells shown.right
      → AreTaken (map pair_seen rows) (fan (tree_rows usable pages height) cells shown.right) result
  pub read : IsShownAt usable pages page shown → Each (IsRead usable pages levels page) rows

abbrev pub TakesChildren : {P : Type 0} (g : Ghosts P) (early late : P) (page levels : ℕ) → Shown → Result Bool TreeFault → List Pair → Type 0
TakesChildren g early late page levels shown result rows =
    (pages : Paging) → Agrees pages (g.seen late) → AreChildrenTaken (g.used early) (sight g early pages) page levels shown result rows

-- in the loop: the rows below the children before this place
pub record AreChildrenUpTo (usable : ℕ) (pages : Paging) (page levels : ℕ) (shown : Shown) (index : ℕ) (rows : List Pair) : Type 0 where
  pub found : (cells : List Cell) → shown.cells ≡ map Some cells → (height a b : ℕ) → suc height < levels → AreUnder (IsTree usable pages height) a b cells shown.right
      → map pair_seen rows ++ fan (tree_rows usable pages height) (drop index cells) shown.right ≡ fan (tree_rows usable pages height) cells shown.right
  pub read : IsShownAt usable pages page shown → Each (IsRead usable pages levels page) rows

abbrev pub TakesChildrenUpTo : {P : Type 0} (g : Ghosts P) (early now : P) (page levels : ℕ) → Shown → (index : ℕ) → List Pair → Type 0
TakesChildrenUpTo g early now page levels shown index rows =
    (pages : Paging) → Agrees pages (g.seen now) → AreChildrenUpTo (g.used early) (sight g early pages) page levels shown index rows

-- Corrupt comes below a page that shows this only for a cause that is met there
abbrev pub ChildrenDamage : {P X : Type 0} (g : Ghosts P) (early late : P) (page levels : ℕ) → Shown → Result X TreeFault → Type 0
ChildrenDamage g early late page levels shown result =
    (pages : Paging) → Agrees pages (g.seen late) → IsShownAt (g.used early) (sight g early pages) page shown
    → HasDamage (g.used early) (sight g early pages) page levels result

abbrev pub MissesInChildren : {P X : Type 0} (g : Ghosts P) (early late : P) → Shown → Result X TreeFault → Type 0
MissesInChildren g early late shown result =
    (pages : Paging) → Agrees pages (g.seen late) → (cells : List Cell) → shown.cells ≡ map Some cells
    → (height a b : ℕ) → AreUnder (IsTree (g.used early) (sight g early pages) height) a b cells shown.right
    → IfErr result (OnMissing (Contains (fan (all_pages (g.used early) (sight g early pages) height) cells shown.right)))
