-- What a walk over the rows between two rowids answers, whatever the pages below the space are, as long as they agree with
-- all that was given.
use Rattle.std.specs.Prelude.{◌≡◌, ◌⊎◌, ℕ, zero, suc, ℤ, ◌<◌, ◌≤◌, List, [], ◌∷◌, ◌++◌, map, drop, Option, Some, None, Result, Ok, Err, IfErr, All}
use Rattle.std.specs.List.{Contains}
use Rattle.std.specs.declared.vec.Vec.{Vec}
use Rattle.std.specs.declared.alloc.Global.{Global}
use Rattle.std.specs.declared.alloc.AllocError.{AllocError}
use Rattle.spe_model.specs.declared.page.Kind.TheVariants.{TableLeaf}
use Rattle.spe_model.specs.declared.page.Cell.{Cell}
use Rattle.spe_model.specs.declared.page.PageCells.{PageCells}
use Rattle.spe_model.specs.Paging.{Paging, Agrees}
use Rattle.spe_model.specs.Chain.{IsChain, IsAmiss, IsLink}
use Rattle.spe_model.specs.Tree.{rank, rest_of, payload_of, AreRows, rows_of, IsTree, IsTableTree, tree_rows, header_end, node_at, node_cells, node_right, tree_pages}
use Rattle.spe_model.specs.Range.{between, touched, joined}
use Rattle.spe_format.specs.View.{Shown, shown_at}
use Rattle.spe_space.specs.Found.{Answers, EndsWrong, OnMissing}
use Rattle.spe_search.specs.Found.{used_of, IsFaulty, BreaksLeaf, ShowsCell, ShowsChild}
use Rattle.spe_search.specs.Step.{ShowsNoTable}
use Rattle.spe_space.specs.Calls.{sight}
use Rattle.spe_space.specs.declared.pages.Pages.{Ghosts}
use Rattle.spe_space.specs.declared.fault.TreeFault.{TreeFault}
use Rattle.spe_space.specs.declared.fault.TreeFault.TheVariants.{Space, Corrupt}
use Rattle.spe_search.specs.Step.{HasCell, HasChild, HasHole}

-- these rows are pushed, or the space refused
abbrev pub Pushes : {X : Type 0} → List (ℤ × List ℕ) → (old new : List (ℤ × List ℕ)) → Result X TreeFault → Type 0
Pushes rows old new (Ok x) = new ≡ old ++ rows
Pushes rows old new (Err (Space f)) = Unit {0}
Pushes rows old new (Err (Corrupt page)) = ⊥

abbrev pub PushesRow : {P X : Type 0} (g : Ghosts P) (early late : P) (c : Cell) (old new : List (ℤ × List ℕ)) (result : Result X TreeFault) → Type 0
PushesRow g early late c old new result =
    (pages : Paging) → Agrees pages (g.seen late) → IsChain (g.used early) (sight g early pages) (rest_of c) c.chain
    → Pushes ((c.key, payload_of (g.used early) (sight g early pages) c) ∷ []) old new result

abbrev pub PushesRows : {P X : Type 0} (g : Ghosts P) (early late : P) (shown : List (Option Cell)) (low high : ℕ) (old new : List (ℤ × List ℕ)) (result : Result X TreeFault) → Type 0
PushesRows g early late shown low high old new result =
    (pages : Paging) → Agrees pages (g.seen late) → (cells : List Cell) → shown ≡ map Some cells
    → (a b : ℕ) → AreRows (g.used early) (sight g early pages) a b cells
    → Pushes (between low high (rows_of (g.used early) (sight g early pages) cells)) old new result

abbrev pub BreaksCell : (usable : ℕ) (pages : Paging) (page : ℕ) (c : Cell) (at : ℕ) → Type 0
BreaksCell usable pages page c at = ((at ≡ page) × IsAmiss (rest_of c) c.chain) ⊎ EndsWrong usable pages (rest_of c) c.chain at

abbrev pub HasCellBreak : {X : Type 0} (usable : ℕ) (pages : Paging) (page : ℕ) (c : Cell) → Result X TreeFault → Type 0
HasCellBreak usable pages page c (Ok x) = Unit {0}
HasCellBreak usable pages page c (Err (Space f)) = Unit {0}
HasCellBreak usable pages page c (Err (Corrupt at)) = BreaksCell usable pages page c at

abbrev pub RowDamage : {P X : Type 0} (g : Ghosts P) (early late : P) (page : ℕ) (c : Cell) (result : Result X TreeFault) → Type 0
RowDamage g early late page c result = (pages : Paging) → Agrees pages (g.seen late) → HasCellBreak (g.used early) (sight g early pages) page c result

abbrev pub HasLeafBreak : {X : Type 0} (usable : ℕ) (pages : Paging) (page : ℕ) (shown : List (Option Cell)) → Result X TreeFault → Type 0
HasLeafBreak usable pages page shown (Ok x) = Unit {0}
HasLeafBreak usable pages page shown (Err (Space f)) = Unit {0}
HasLeafBreak usable pages page shown (Err (Corrupt at)) =
    ((at ≡ page) × HasHole shown) ⊎ ((c : Cell) × HasCell shown c × BreaksCell usable pages page c at)

abbrev pub RowsDamage : {P X : Type 0} (g : Ghosts P) (early late : P) (page : ℕ) (shown : List (Option Cell)) (result : Result X TreeFault) → Type 0
RowsDamage g early late page shown result = (pages : Paging) → Agrees pages (g.seen late) → HasLeafBreak (g.used early) (sight g early pages) page shown result

abbrev pub AddsOfRow : {P : Type 0} (g : Ghosts P) (early late : P) (c : Cell) → Type 0
AddsOfRow g early late c =
    (pages : Paging) → Agrees pages (g.seen late) → (n : ℕ) → (g.seen late n ≡ g.seen early n) ⊎ IsLink (g.used early) (sight g early pages) (rest_of c) c.chain n

-- a page of the chain of a row between two rowids, by rank
pub record IsLinkOf (usable : ℕ) (pages : Paging) (shown : List (Option Cell)) (low high n : ℕ) : Type 0 where
  pub row : Cell
  pub is : HasCell shown row
  pub from : low ≤ rank row.key
  pub to : rank row.key ≤ high
  pub link : IsLink usable pages (rest_of row) row.chain n

abbrev pub AddsOfRows : {P : Type 0} (g : Ghosts P) (early late : P) (shown : List (Option Cell)) (low high : ℕ) → Type 0
AddsOfRows g early late shown low high =
    (pages : Paging) → Agrees pages (g.seen late) → (n : ℕ) → (g.seen late n ≡ g.seen early n) ⊎ IsLinkOf (g.used early) (sight g early pages) shown low high n

abbrev pub MissesInRows : {P X : Type 0} (g : Ghosts P) (early late : P) (shown : List (Option Cell)) (low high : ℕ) (result : Result X TreeFault) → Type 0
MissesInRows g early late shown low high result =
    (pages : Paging) → Agrees pages (g.seen late) → IfErr result (OnMissing (λ at. (0 < at) × IsLinkOf (g.used early) (sight g early pages) shown low high at))

abbrev pub ListsChildren : List (Option Cell) → (right low high : ℕ) → Result (Option (Vec ℕ Global)) AllocError → Type 0
ListsChildren shown right low high (Err e) = Unit {0}
ListsChildren shown right low high (Ok None) = HasHole shown
ListsChildren shown right low high (Ok (Some children)) =
    All (HasChild shown right) children.items × ((cells : List Cell) → shown ≡ map Some cells → children.items ≡ touched low high cells right)

-- in a loop over the cells of an interior page: the children up to this cell are listed
abbrev pub HasListed : List (Option Cell) → (right low high index : ℕ) → List ℕ → Type 0
HasListed shown right low high index children =
    (cells : List Cell) → shown ≡ map Some cells → children ++ touched low high (drop index cells) right ≡ touched low high cells right

-- in a loop over the cells of a leaf: the rows up to this cell are pushed
abbrev pub HasPushed : {P : Type 0} (g : Ghosts P) (early now : P) (shown : List (Option Cell)) (low high index : ℕ) (old new : List (ℤ × List ℕ)) → Type 0
HasPushed g early now shown low high index old new =
    (pages : Paging) → Agrees pages (g.seen now) → (cells : List Cell) → shown ≡ map Some cells
    → (a b : ℕ) → AreRows (g.used early) (sight g early pages) a b cells
    → new ++ between low high (rows_of (g.used early) (sight g early pages) (drop index cells)) ≡ old ++ between low high (rows_of (g.used early) (sight g early pages) cells)

-- these children are listed and these rows pushed, or the space refused
abbrev pub Lists : (children : List ℕ) (rows old new : List (ℤ × List ℕ)) → Result (Vec ℕ Global) TreeFault → Type 0
Lists children rows old new (Ok v) = (v.items ≡ children) × (new ≡ old ++ rows)
Lists children rows old new (Err (Space f)) = Unit {0}
Lists children rows old new (Err (Corrupt page)) = ⊥

abbrev pub LooksAtLeaf : {P : Type 0} (g : Ghosts P) (early late : P) (shown : List (Option Cell)) (low high : ℕ) (old new : List (ℤ × List ℕ)) (result : Result (Vec ℕ Global) TreeFault) → Type 0
LooksAtLeaf g early late shown low high old new result =
    (pages : Paging) → Agrees pages (g.seen late) → (cells : List Cell) → shown ≡ map Some cells
    → (a b : ℕ) → AreRows (g.used early) (sight g early pages) a b cells
    → Lists [] (between low high (rows_of (g.used early) (sight g early pages) cells)) old new result

abbrev pub LooksAtInterior : (shown : List (Option Cell)) (right low high : ℕ) (old new : List (ℤ × List ℕ)) (result : Result (Vec ℕ Global) TreeFault) → Type 0
LooksAtInterior shown right low high old new result = (cells : List Cell) → shown ≡ map Some cells → Lists (touched low high cells right) [] old new result

abbrev pub HasLookCause : (usable : ℕ) (pages : Paging) (page : ℕ) (shown : Shown) → Result (Vec ℕ Global) TreeFault → Type 0
HasLookCause usable pages page shown (Ok v) = All (HasChild shown.cells shown.right) v.items
HasLookCause usable pages page shown (Err (Space f)) = Unit {0}
HasLookCause usable pages page shown (Err (Corrupt at)) =
    ((at ≡ page) × ShowsNoTable shown) ⊎ ((c : Cell) × HasCell shown.cells c × BreaksCell usable pages page c at)

abbrev pub LookDamage : {P : Type 0} (g : Ghosts P) (early late : P) (page : ℕ) (shown : Shown) (result : Result (Vec ℕ Global) TreeFault) → Type 0
LookDamage g early late page shown result = (pages : Paging) → Agrees pages (g.seen late) → HasLookCause (g.used early) (sight g early pages) page shown result

abbrev pub AddsOfLook : {P : Type 0} (g : Ghosts P) (early late : P) (shown : Shown) (low high : ℕ) → Type 0
AddsOfLook g early late shown low high =
    (pages : Paging) → Agrees pages (g.seen late)
    → (n : ℕ) → (g.seen late n ≡ g.seen early n) ⊎ ((shown.kind ≡ TableLeaf) × IsLinkOf (g.used early) (sight g early pages) shown.cells low high n)

abbrev pub MissesInLook : {P X : Type 0} (g : Ghosts P) (early late : P) (shown : Shown) (low high : ℕ) (result : Result X TreeFault) → Type 0
MissesInLook g early late shown low high result =
    (pages : Paging) → Agrees pages (g.seen late)
    → IfErr result (OnMissing (λ at. (shown.kind ≡ TableLeaf) × (0 < at) × IsLinkOf (g.used early) (sight g early pages) shown.cells low high at))

-- a page of the chain of a row of a leaf
pub record IsLinkAt (usable : ℕ) (pages : Paging) (page low high n : ℕ) : Type 0 where
  pub shown : Shown
  pub is : shown_at (used_of usable pages page) (header_end page) ≡ Ok shown
  pub kind : shown.kind ≡ TableLeaf
  pub leaf : (cells : PageCells) → node_at usable pages page ≡ Ok cells → cells.kind ≡ TableLeaf
  pub link : IsLinkOf usable pages shown.cells low high n

abbrev pub AddsOfVisit : {P : Type 0} (g : Ghosts P) (early late : P) (page low high : ℕ) → Type 0
AddsOfVisit g early late page low high =
    (pages : Paging) → Agrees pages (g.seen late)
    → (n : ℕ) → (g.seen late n ≡ g.seen early n) ⊎ ((n ≡ page) ⊎ IsLinkAt (g.used early) (sight g early pages) page low high n)

abbrev pub MissesInVisit : {P X : Type 0} (g : Ghosts P) (early late : P) (page low high : ℕ) (result : Result X TreeFault) → Type 0
MissesInVisit g early late page low high result =
    (pages : Paging) → Agrees pages (g.seen late)
    → IfErr result (OnMissing (λ at. (at ≡ page) ⊎ ((0 < at) × IsLinkAt (g.used early) (sight g early pages) page low high at)))

-- a page of a tree
pub record IsVisit (usable : ℕ) (pages : Paging) (page low high : ℕ) (old new : List (ℤ × List ℕ)) (result : Result (Vec ℕ Global) TreeFault) : Type 0 where
  pub leaf : (a b : ℕ) → IsTree usable pages zero a b page → Lists [] (between low high (tree_rows usable pages zero page)) old new result
  pub interior : (height a b : ℕ) → IsTree usable pages (suc height) a b page → Lists (touched low high (node_cells usable pages page) (node_right usable pages page)) [] old new result

abbrev pub Visits : {P : Type 0} (g : Ghosts P) (early late : P) (page low high : ℕ) (old new : List (ℤ × List ℕ)) (result : Result (Vec ℕ Global) TreeFault) → Type 0
Visits g early late page low high old new result =
    (pages : Paging) → Agrees pages (g.seen late) → IsVisit (g.used early) (sight g early pages) page low high old new result

abbrev pub HasVisitCause : (usable : ℕ) (pages : Paging) (page : ℕ) → Result (Vec ℕ Global) TreeFault → Type 0
HasVisitCause usable pages page (Ok v) = All (ShowsChild usable pages page) v.items
HasVisitCause usable pages page (Err (Space f)) = Unit {0}
HasVisitCause usable pages page (Err (Corrupt at)) = ((at ≡ page) × IsFaulty usable pages page) ⊎ BreaksLeaf usable pages page at

abbrev pub VisitDamage : {P : Type 0} (g : Ghosts P) (early late : P) (page : ℕ) (result : Result (Vec ℕ Global) TreeFault) → Type 0
VisitDamage g early late page result = (pages : Paging) → Agrees pages (g.seen late) → HasVisitCause (g.used early) (sight g early pages) page result

abbrev pub WalksBelow : {P X : Type 0} (g : Ghosts P) (early late : P) (page low high levels : ℕ) (old new : List (ℤ × List ℕ)) (result : Result X TreeFault) → Type 0
WalksBelow g early late page low high levels old new result =
    (pages : Paging) → Agrees pages (g.seen late) → (height a b : ℕ) → height < levels → IsTree (g.used early) (sight g early pages) height a b page
    → Pushes (between low high (tree_rows (g.used early) (sight g early pages) height page)) old new result

-- the rows of the tree of a table between two rowids
abbrev pub FindsBetween : {P X : Type 0} (g : Ghosts P) (early late : P) (root : ℕ) (low high : ℤ) (view : X → List (ℤ × List ℕ)) (result : Result X TreeFault) → Type 0
FindsBetween g early late root low high view result =
    (pages : Paging) → Agrees pages (g.seen late) → (height : ℕ) → IsTableTree (g.used early) (sight g early pages) height root
    → Answers view (between (rank low) (rank high) (tree_rows (g.used early) (sight g early pages) height root)) result

abbrev pub FindsRange : {P : Type 0} (g : Ghosts P) (early late : P) (root : ℕ) (low high : ℤ) (result : Result (List (ℤ × List ℕ)) TreeFault) → Type 0
FindsRange g early late root low high result = FindsBetween g early late root low high (λ rows. rows) result

-- the pages of a tree that a walk over the rows between two rowids touches, by rank
abbrev pub touched_pages : (usable : ℕ) (pages : Paging) (low high height page : ℕ) → List ℕ
touched_pages usable pages low high zero page = page ∷ []
touched_pages usable pages low high (suc height) page =
    page ∷ joined (touched_pages usable pages low high height) (touched low high (node_cells usable pages page) (node_right usable pages page))

-- they are pages of the tree
abbrev pub TouchesTheTree : Type 0
TouchesTheTree = (usable : ℕ) (pages : Paging) (low high height page n : ℕ)
    → Contains (touched_pages usable pages low high height page) n → Contains (tree_pages usable pages height page) n

-- all rows of a table are between the least and the greatest rowid
abbrev pub SpansTheTable : Type 0
SpansTheTable = (usable : ℕ) (pages : Paging) (height root : ℕ) → IsTableTree usable pages height root
    → between 0 18446744073709551615 (tree_rows usable pages height root) ≡ tree_rows usable pages height root

-- a page of the chain of a row between the two rowids
pub record IsOverflowBetween (usable : ℕ) (pages : Paging) (low high height page at : ℕ) : Type 0 where
  pub leaf : ℕ
  pub row : Cell
  pub inside : Contains (touched_pages usable pages low high height page) leaf
  pub shown : ShowsCell usable pages leaf row
  pub kind : shown.shown.kind ≡ TableLeaf
  pub from : low ≤ rank row.key
  pub to : rank row.key ≤ high
  pub link : IsLink usable pages (rest_of row) row.chain at

-- each page that is given for the first time is one of the tree's that the two rowids touch, or of the chain of a row
-- between them
abbrev pub AddsOfRange : {P : Type 0} (g : Ghosts P) (early late : P) (page low high : ℕ) → Type 0
AddsOfRange g early late page low high =
    (pages : Paging) → Agrees pages (g.seen late) → (height a b : ℕ) → IsTree (g.used early) (sight g early pages) height a b page
    → (n : ℕ) → (g.seen late n ≡ g.seen early n)
    ⊎ (Contains (touched_pages (g.used early) (sight g early pages) low high height page) n ⊎ IsOverflowBetween (g.used early) (sight g early pages) low high height page n)

-- a page that is asked for and is none of the space's is one of those; a chain never asks for page 0
abbrev pub MissesInRange : {P X : Type 0} (g : Ghosts P) (early late : P) (page low high : ℕ) (result : Result X TreeFault) → Type 0
MissesInRange g early late page low high result =
    (pages : Paging) → Agrees pages (g.seen late) → (height a b : ℕ) → IsTree (g.used early) (sight g early pages) height a b page
    → IfErr result (OnMissing (λ at. Contains (touched_pages (g.used early) (sight g early pages) low high height page) at
    ⊎ ((0 < at) × IsOverflowBetween (g.used early) (sight g early pages) low high height page at)))

-- some tree stands under each of these pages
abbrev pub AreTrees : (T : (low high page : ℕ) → Type 0) → List ℕ → Type 0
AreTrees T [] = Unit {0}
AreTrees T (page ∷ rest) = ((a : ℕ) × (b : ℕ) × T a b page) × AreTrees T rest

-- in a loop over the children of a page: what is pushed, and the rows of those that are left
pub record IsWalked (usable : ℕ) (pages : Paging) (page low high levels : ℕ) (old new : List (ℤ × List ℕ)) (left : List ℕ) : Type 0 where
  pub leaf : (a b : ℕ) → IsTree usable pages zero a b page → (left ≡ []) × (new ≡ old ++ between low high (tree_rows usable pages zero page))
  pub trees : (height a b : ℕ) → IsTree usable pages (suc height) a b page → AreTrees (IsTree usable pages height) left
  pub touches : (height a b : ℕ) → IsTree usable pages (suc height) a b page
      → All (Contains (touched low high (node_cells usable pages page) (node_right usable pages page))) left
  pub rows : (height a b : ℕ) → suc height < levels → IsTree usable pages (suc height) a b page
      → new ++ joined (λ p. between low high (tree_rows usable pages height p)) left ≡ old ++ between low high (tree_rows usable pages (suc height) page)
  pub shown : All (ShowsChild usable pages page) left

abbrev pub HasWalked : {P : Type 0} (g : Ghosts P) (early now : P) (page low high levels : ℕ) (old new : List (ℤ × List ℕ)) (left : List ℕ) → Type 0
HasWalked g early now page low high levels old new left =
    (pages : Paging) → Agrees pages (g.seen now) → IsWalked (g.used early) (sight g early pages) page low high levels old new left
