-- The bounds of trees and of their rows, and the order of their keys.
use Rattle.std.proofs.Common.{◌≡◌, ℕ, zero, suc, ℤ, pos, negsuc, ◌+◌, ◌<◌, ◌≤◌, List, [], ◌∷◌, All, true, refl, arith}
use Rattle.std.specs.Prelude.{int_lt}
use Rattle.std.proofs.lemmas.Bool.{lt-ltb}
use Rattle.std.proofs.lemmas.List.Elements.{All-append, All-cons, All-head, All-nil, All-tail}
use Rattle.spe_model.specs.declared.page.Cell.{Cell}
use Rattle.spe_model.specs.Page.{above, ascends}
use Rattle.spe_model.specs.Paging.{Paging}
use Rattle.spe_model.specs.Tree.{AreRows, AreUnder, IsTree, fan, node_cells, node_right, rank, rows_of, tree_rows}
use Rattle.spe_cut.specs.Run.{bound_after}
use Rattle.spe_cut.specs.Rows.{AreHigher, AreLower, RowsAscend, RunAscends}
use Rattle.spe_cut.proofs.FanLemmas.{AreFront, Orders, all_left, bound_above, under_orders}

-- a row's rowid is at least `low` and under `high`, by rank
abbrev pub IsWithin : (low high : ℕ) → ℤ × List ℕ → Type 0
IsWithin low high r = (low ≤ rank r.0) × (rank r.0 < high)

pub rows_order : (usable : ℕ) (pages : Paging) (low high : ℕ) (cells : List Cell) → AreRows usable pages low high cells → low ≤ high
rows_order usable pages low high [] rows = rows
rows_order usable pages low high (c ∷ cs) rows = omega (arith, rows.0, rows.1)

pub tree_orders : (usable : ℕ) (pages : Paging) (height : ℕ) → Orders (IsTree usable pages height)
tree_orders usable pages zero low high page tree = rows_order usable pages low high (node_cells usable pages page) tree.1
tree_orders usable pages (suc height) low high page tree =
    under_orders (IsTree usable pages height) (tree_orders usable pages height) low high (node_cells usable pages page) (node_right usable pages page) tree.1

wider : (low low' high high' : ℕ) (rows : List (ℤ × List ℕ)) → low' ≤ low → high ≤ high' → All (IsWithin low high) rows → All (IsWithin low' high') rows
wider low low' high high' [] from to all = All-nil (IsWithin low' high')
wider low low' high high' (r ∷ rs) from to all =
    let first = All-head (IsWithin low high) r rs all in
    All-cons (IsWithin low' high') r rs (omega (arith, first.0), omega (arith, first.1)) (wider low low' high high' rs from to (All-tail (IsWithin low high) r rs all))

rows_within : (usable : ℕ) (pages : Paging) (low high : ℕ) (cells : List Cell) → AreRows usable pages low high cells → All (IsWithin low high) (rows_of usable pages cells)
rows_within usable pages low high [] rows = All-nil (IsWithin low high)
rows_within usable pages low high (c ∷ cs) rows =
    let rest = rows_within usable pages (rank c.key + 1) high cs rows.3 in
    All-cons (IsWithin low high) _ _ (rows.0, rows.1) (wider (rank c.key + 1) low high high _ (omega (arith, rows.0)) (omega arith) rest)

-- each tree's rows are between its bounds
abbrev pub HasWithin : (T : (low high page : ℕ) → Type 0) (rows : ℕ → List (ℤ × List ℕ)) → Type 0
HasWithin T rows = (low high page : ℕ) → T low high page → All (IsWithin low high) (rows page)

pub fan_within : (T : (low high page : ℕ) → Type 0) (rows : ℕ → List (ℤ × List ℕ)) → HasWithin T rows → (low high : ℕ) (cells : List Cell) (right : ℕ)
    → AreUnder T low high cells right → All (IsWithin low high) (fan rows cells right)
fan_within T rows has low high [] right under = has low high right under
fan_within T rows has low high (c ∷ cs) right under =
    All-append (IsWithin low high) (rows c.left) (fan rows cs right)
    (wider low low (rank c.key + 1) high (rows c.left) (omega arith) (omega (arith, under.1)) (has low (rank c.key + 1) c.left under.2))
    (wider (rank c.key + 1) low high high (fan rows cs right) (omega (arith, under.0)) (omega arith) (fan_within T rows has (rank c.key + 1) high cs right under.3))

pub tree_within : (usable : ℕ) (pages : Paging) (height : ℕ) → HasWithin (IsTree usable pages height) (tree_rows usable pages height)
tree_within usable pages zero low high page tree = rows_within usable pages low high (node_cells usable pages page) tree.1
tree_within usable pages (suc height) low high page tree =
    fan_within (IsTree usable pages height) (tree_rows usable pages height) (tree_within usable pages height) low high (node_cells usable pages page) (node_right usable pages page) tree.1

-- the rows before a bound, and those from it on
lower_of : (low high : ℕ) (rows : List (ℤ × List ℕ)) → All (IsWithin low high) rows → AreLower high rows
lower_of low high [] all = All-nil (λ (r : ℤ × List ℕ). rank r.0 < high)
lower_of low high (r ∷ rs) all =
    All-cons (λ (s : ℤ × List ℕ). rank s.0 < high) r rs (All-head (IsWithin low high) r rs all).1 (lower_of low high rs (All-tail (IsWithin low high) r rs all))

pub higher_of : (low high : ℕ) (rows : List (ℤ × List ℕ)) → All (IsWithin low high) rows → AreHigher low rows
higher_of low high [] all = All-nil (λ (r : ℤ × List ℕ). low ≤ rank r.0)
higher_of low high (r ∷ rs) all =
    All-cons (λ (s : ℤ × List ℕ). low ≤ rank s.0) r rs (All-head (IsWithin low high) r rs all).0 (higher_of low high rs (All-tail (IsWithin low high) r rs all))

lower_than : (bound bound' : ℕ) (rows : List (ℤ × List ℕ)) → bound ≤ bound' → AreLower bound rows → AreLower bound' rows
lower_than bound bound' [] order all = All-nil (λ (r : ℤ × List ℕ). rank r.0 < bound')
lower_than bound bound' (r ∷ rs) order all =
    let first : rank r.0 < bound = All-head (λ (s : ℤ × List ℕ). rank s.0 < bound) r rs all in
    All-cons (λ (s : ℤ × List ℕ). rank s.0 < bound') r rs (omega arith) (lower_than bound bound' rs order (All-tail (λ (s : ℤ × List ℕ). rank s.0 < bound) r rs all))

pub front_lower : (T : (low high page : ℕ) → Type 0) (rows : ℕ → List (ℤ × List ℕ)) → HasWithin T rows → (low : ℕ) (cells : List Cell)
    → AreFront T low cells → AreLower (bound_after low cells) (all_left rows cells)
front_lower T rows has low [] are = All-nil (λ (r : ℤ × List ℕ). rank r.0 < low)
front_lower T rows has low (c ∷ cs) are =
    let bound = bound_after (rank c.key + 1) cs in
    All-append (λ (r : ℤ × List ℕ). rank r.0 < bound) (rows c.left) (all_left rows cs)
    (lower_than (rank c.key + 1) bound (rows c.left) (bound_above T (rank c.key + 1) cs are.2) (lower_of low (rank c.key + 1) (rows c.left) (has low (rank c.key + 1) c.left are.1)))
    (front_lower T rows has (rank c.key + 1) cs are.2)

-- an integer with the lower rank is lower
pub lower_rank : (a b : ℤ) → rank a < rank b → int_lt a b ≡ true
lower_rank (pos m) (pos n) order = lt-ltb m n (omega (arith, order))
lower_rank (pos m) (negsuc n) order = absurd (omega (arith, order))
lower_rank (negsuc m) (pos n) order = refl
lower_rank (negsuc m) (negsuc n) order = lt-ltb n m (omega (arith, order))

above_rows : (usable : ℕ) (pages : Paging) (key : ℤ) (low high : ℕ) (cells : List Cell) → rank key < low → AreRows usable pages low high cells → above key cells ≡ true
above_rows usable pages key low high [] order rows = refl
above_rows usable pages key low high (c ∷ cs) order rows =
    rw (lower_rank key c.key (omega (arith, rows.0)), above_rows usable pages c.key (rank c.key + 1) high cs (omega arith) rows.3) refl

pub rows_ascend : RowsAscend
rows_ascend usable pages low high [] rows = refl
rows_ascend usable pages low high (c ∷ cs) rows = above_rows usable pages c.key (rank c.key + 1) high cs (omega arith) rows.3

above_under : (T : (low high page : ℕ) → Type 0) (key : ℤ) (low high : ℕ) (cells : List Cell) (right : ℕ) → rank key < low → AreUnder T low high cells right → above key cells ≡ true
above_under T key low high [] right order under = refl
above_under T key low high (c ∷ cs) right order under =
    rw (lower_rank key c.key (omega (arith, under.0)), above_under T c.key (rank c.key + 1) high cs right (omega arith) under.3) refl

pub under_ascends : (T : (low high page : ℕ) → Type 0) (low high : ℕ) (cells : List Cell) (right : ℕ) → AreUnder T low high cells right → ascends cells ≡ true
under_ascends T low high [] right under = refl
under_ascends T low high (c ∷ cs) right under = above_under T c.key (rank c.key + 1) high cs right (omega arith) under.3

pub run_ascends : RunAscends
run_ascends usable pages height low high run is = under_ascends (IsTree usable pages height) low high run.cells run.right is
