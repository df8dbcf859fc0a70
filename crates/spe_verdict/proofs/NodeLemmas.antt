-- Pages by their kinds.
use Rattle.std.proofs.Common.{◌≡◌, ℕ, List, [], ◌∷◌, length, drop, take, refl, sym, ap, subst, ◌∙◌, arith, Bool, true, false, Option, Some, None, Result, Ok, Err}
use Rattle.std.specs.Prelude.{◌&&◌, not, nat_lt, slice_index, if◌then◌else◌}
use Rattle.std.specs.List.{list_all}
use Rattle.spe_model.specs.declared.page.Cell.{Cell}
use Rattle.spe_model.specs.declared.page.Kind.{Kind}
use Rattle.spe_model.specs.declared.page.Kind.TheVariants.{TableLeaf, TableInterior, IndexLeaf, IndexInterior}
use Rattle.spe_model.specs.declared.page.PageCells.{PageCells}
use Rattle.spe_model.specs.declared.page.PageFault.{PageFault}
use Rattle.spe_model.specs.declared.page.PageFault.TheVariants.{OffsetOut, Overlap, OutOfOrder}
use Rattle.spe_model.specs.Cell.{◌>>=◌, cell_at, left_at, payload_at, key_at, bytes_at, chain_at}
use Rattle.spe_model.specs.Kind.{kind_of, is_leaf, is_table}
use Rattle.spe_model.specs.Page.{page_at, page_of_cells, page_of_kind, placed_all, placed_at, apart, ascends, array_end, is_within, offsets_at}
use Rattle.spe_model.specs.Paging.{Paging}
use Rattle.spe_model.specs.Tree.{IsNode, cells_in, header_end, node_cells, node_right, rest_of, right_in}
use Rattle.spe_model.specs.Walk.{has_kind, is_legal}

abbrev pub made : Kind → Result PageCells PageFault → Result PageCells PageFault
made kind r = Ok (record { kind = kind; cells = cells_in r; right = right_in r })

abbrev pub is_other : Kind → Bool
is_other kind = not (is_table kind)

table_leaf : (k : Kind) → is_table k ≡ true → is_leaf k ≡ true → k ≡ TableLeaf
table_leaf TableLeaf table leaf = refl
table_leaf TableInterior table leaf = absurd cc
table_leaf IndexLeaf table leaf = absurd cc
table_leaf IndexInterior table leaf = absurd cc

table_interior : (k : Kind) → is_table k ≡ true → is_leaf k ≡ false → k ≡ TableInterior
table_interior TableLeaf table leaf = absurd cc
table_interior TableInterior table leaf = refl
table_interior IndexLeaf table leaf = absurd cc
table_interior IndexInterior table leaf = absurd cc

index_leaf : (k : Kind) → is_other k ≡ true → is_leaf k ≡ true → k ≡ IndexLeaf
index_leaf TableLeaf index leaf = absurd cc
index_leaf TableInterior index leaf = absurd cc
index_leaf IndexLeaf index leaf = refl
index_leaf IndexInterior index leaf = absurd cc

index_interior : (k : Kind) → is_other k ≡ true → is_leaf k ≡ false → k ≡ IndexInterior
index_interior TableLeaf index leaf = absurd cc
index_interior TableInterior index leaf = absurd cc
index_interior IndexLeaf index leaf = absurd cc
index_interior IndexInterior index leaf = refl

of_kind : (page : PageCells) (k : Kind) → page.kind ≡ k → Ok page ≡ made k (Ok page)
of_kind page k is = ap (λ (x : Kind). made x (Ok page)) is

pub is_table_leaf : (r : Result PageCells PageFault) → is_legal r ≡ true → has_kind is_table r ≡ true → has_kind is_leaf r ≡ true → r ≡ made TableLeaf r
is_table_leaf (Ok page) legal sort leaf = of_kind page TableLeaf (table_leaf page.kind sort leaf)
is_table_leaf (Err fault) legal sort leaf = absurd cc

pub is_table_interior : (r : Result PageCells PageFault) → is_legal r ≡ true → has_kind is_table r ≡ true → has_kind is_leaf r ≡ false → r ≡ made TableInterior r
is_table_interior (Ok page) legal sort leaf = of_kind page TableInterior (table_interior page.kind sort leaf)
is_table_interior (Err fault) legal sort leaf = absurd cc

pub is_index_leaf : (r : Result PageCells PageFault) → is_legal r ≡ true → has_kind is_other r ≡ true → has_kind is_leaf r ≡ true → r ≡ made IndexLeaf r
is_index_leaf (Ok page) legal sort leaf = of_kind page IndexLeaf (index_leaf page.kind sort leaf)
is_index_leaf (Err fault) legal sort leaf = absurd cc

pub is_index_interior : (r : Result PageCells PageFault) → is_legal r ≡ true → has_kind is_other r ≡ true → has_kind is_leaf r ≡ false → r ≡ made IndexInterior r
is_index_interior (Ok page) legal sort leaf = of_kind page IndexInterior (index_interior page.kind sort leaf)
is_index_interior (Err fault) legal sort leaf = absurd cc

-- a made page is legal, and its kind is what it was made of
pub made_legal : (k : Kind) (r : Result PageCells PageFault) → r ≡ made k r → is_legal r ≡ true
made_legal k r is = ap is_legal is

pub made_kind : (test : Kind → Bool) (k : Kind) (r : Result PageCells PageFault) → r ≡ made k r → has_kind test r ≡ test k
made_kind test k r is = ap (has_kind test) is

pub bind_some : {A B : Type 0} (o : Option A) (f : A → Option B) (y : B) → (o >>= f) ≡ Some y → (x : A) × (o ≡ Some x) × (f x ≡ Some y)
bind_some None f y is = absurd cc
bind_some (Some x) f y is = (x, refl, is)

if_some : {A : Type 0} (b : Bool) (o : Option A) (y : A) → (if b then None else o) ≡ Some y → o ≡ Some y
if_some true o y is = absurd cc
if_some false o y is = is

pub if_ok : (b : Bool) (fault : PageFault) (r : Result PageCells PageFault) (page : PageCells) → (if b then Err fault else r) ≡ Ok page → r ≡ Ok page
if_ok true fault r page is = absurd cc
if_ok false fault r page is = is

-- the payload of each cell stands whole in the page
abbrev pub AreWhole : List Cell → Type 0
AreWhole [] = Unit {0}
AreWhole (c ∷ cs) = (rest_of c ≡ 0) × AreWhole cs

interior_cell : (usable : ℕ) (bytes : List ℕ) (found : Cell × List ℕ) → cell_at TableInterior usable bytes ≡ Some found → rest_of found.0 ≡ 0
unfolding cell_at payload_at
interior_cell usable bytes found is =
    let left = bind_some (left_at TableInterior bytes) _ found is in
    let key = bind_some (key_at TableInterior left.0.1) _ found left.2 in
    let local = bind_some (bytes_at 0 key.0.1) _ found key.2 in
    let chain = bind_some (chain_at true local.0.1) _ found local.2 in
    let made : record { left = left.0.0; key = key.0.0; payload = 0; local = local.0.0; chain = chain.0.0 } ≡ found.0 = cc in
    ap rest_of (sym made) ∙ omega arith

interior_placed : (usable : ℕ) (page : List ℕ) (offset : ℕ) (found : Cell × ℕ) → placed_at TableInterior usable page offset ≡ Some found → rest_of found.0 ≡ 0
unfolding placed_at
interior_placed usable page offset found is =
    let cell = bind_some (cell_at TableInterior usable (drop offset page)) _ found is in
    let same : cell.0.0 ≡ found.0 = cc in
    ap rest_of (sym same) ∙ interior_cell usable (drop offset page) cell.0 cell.1

interior_all : (usable : ℕ) (page : List ℕ) (offsets : List ℕ) (found : List Cell × List (ℕ × ℕ))
    → placed_all TableInterior usable page offsets ≡ Some found → AreWhole found.0
interior_all usable page [] found is = let none : [] ≡ found.0 = cc in subst AreWhole none tt
interior_all usable page (offset ∷ offsets) found is =
    let first = bind_some (placed_at TableInterior usable page offset) _ found is in
    let others = bind_some (placed_all TableInterior usable page offsets) _ found first.2 in
    let all : first.0.0 ∷ others.0.0 ≡ found.0 = cc in
    subst AreWhole all (interior_placed usable page offset first.0 first.1, interior_all usable page offsets others.0 others.1)

whole_cells : (kind : Kind) (usable : ℕ) (page : List ℕ) (at : ℕ) (offsets : List ℕ) (placed : Option (List Cell × List (ℕ × ℕ))) (shown : PageCells)
    → placed ≡ placed_all kind usable page offsets → page_of_cells kind page at placed ≡ Ok shown → shown.kind ≡ TableInterior → AreWhole shown.cells
whole_cells kind usable page at offsets None shown all is interior = absurd cc
whole_cells kind usable page at offsets (Some found) shown all is interior =
    let apart_ok = if_ok (not (apart found.1)) Overlap _ shown is in
    let made_ok = if_ok (is_table kind && not (ascends found.0)) OutOfOrder _ shown apart_ok in
    let same : kind ≡ TableInterior = cc in
    let cells : found.0 ≡ shown.cells = ap cells_in made_ok in
    subst AreWhole cells (interior_all usable page offsets found (subst (λ (k : Kind). placed_all k usable page offsets ≡ Some found) same (sym all)))

whole_page : (kind : Option Kind) (page : List ℕ) (at : ℕ) (shown : PageCells) → page_of_kind kind page at ≡ Ok shown → shown.kind ≡ TableInterior → AreWhole shown.cells
whole_page None page at shown is interior = absurd cc
whole_page (Some kind) page at shown is interior =
    let array = if_ok (nat_lt (length page) (array_end kind page at)) OffsetOut _ shown is in
    let within = if_ok (not (list_all (is_within (array_end kind page at) (length page)) (offsets_at kind page at))) OffsetOut _ shown array in
    whole_cells kind (length page) page at (offsets_at kind page at) (placed_all kind (length page) page (offsets_at kind page at)) shown refl within interior

-- an interior page of a table has no chains
pub interior_whole : (usable : ℕ) (pages : Paging) (page : ℕ) → IsNode TableInterior usable pages page → AreWhole (node_cells usable pages page)
unfolding page_at
interior_whole usable pages page is =
    whole_page (kind_of (slice_index (take usable (pages page)) (header_end page))) (take usable (pages page)) (header_end page)
    (record { kind = TableInterior; cells = node_cells usable pages page; right = node_right usable pages page }) is refl
