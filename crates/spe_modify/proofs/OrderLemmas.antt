-- The rows of a tree ascend, and where a rowid belongs among them.
use Rattle.std.proofs.Common.{◌≡◌, ℕ, zero, suc, ℤ, pos, negsuc, ◌+◌, ◌<◌, ◌≤◌, ◌⊎◌, true, false, List, [], ◌∷◌, ◌++◌, All, refl, arith}
use Rattle.std.specs.Prelude.{int_lt, nat_lt}
use Rattle.std.specs.Ordering.{int_eq}
use lib.Signed.{mag}
use Rattle.std.proofs.lemmas.Int.{ints}
use Rattle.std.proofs.lemmas.List.Elements.{All-head, All-tail}
use Rattle.spe_model.specs.declared.page.Cell.{Cell}
use Rattle.spe_model.specs.Paging.{Paging}
use Rattle.spe_model.specs.Tree.{AreRows, AreUnder, IsTree, fan, node_cells, node_right, rank, rows_of, tree_rows}
use Rattle.spe_cut.proofs.OrderLemmas.{HasWithin, IsWithin, lower_rank, tree_within}
use Rattle.spe_cut.proofs.RowLemmas.{other_rowid}

-- the rowids ascend from a bound on, by rank
abbrev pub Ascend : (low : ℕ) → List (ℤ × List ℕ) → Type 0
Ascend low [] = Unit {0}
Ascend low (x ∷ xs) = (low ≤ rank x.0) × Ascend (rank x.0 + 1) xs

from_below : (low high : ℕ) (xs : List (ℤ × List ℕ)) → low ≤ high → Ascend high xs → Ascend low xs
from_below low high [] order up = tt
from_below low high (x ∷ xs) order up = (omega (arith, order, up.0), up.1)

ascend_both : (low mid bottom : ℕ) (xs ys : List (ℤ × List ℕ)) → low ≤ mid → Ascend low xs → All (IsWithin bottom mid) xs → Ascend mid ys → Ascend low (xs ++ ys)
ascend_both low mid bottom [] ys order up within rest = from_below low mid ys order rest
ascend_both low mid bottom (x ∷ xs) ys order up within rest =
    let first = All-head (IsWithin bottom mid) x xs within in
    (up.0, ascend_both (rank x.0 + 1) mid bottom xs ys (omega (arith, first.1)) up.1 (All-tail (IsWithin bottom mid) x xs within) rest)

rows_ascend : (usable : ℕ) (pages : Paging) (low high : ℕ) (cells : List Cell) → AreRows usable pages low high cells → Ascend low (rows_of usable pages cells)
rows_ascend usable pages low high [] rows = tt
rows_ascend usable pages low high (c ∷ cs) rows = (rows.0, rows_ascend usable pages (rank c.key + 1) high cs rows.3)

-- the rows of each tree ascend
abbrev HasAscending : (T : (low high page : ℕ) → Type 0) (rows : ℕ → List (ℤ × List ℕ)) → Type 0
HasAscending T rows = (low high page : ℕ) → T low high page → Ascend low (rows page)

fan_ascends : (T : (low high page : ℕ) → Type 0) (rows : ℕ → List (ℤ × List ℕ)) → HasWithin T rows → HasAscending T rows → (low high : ℕ) (cells : List Cell) (right : ℕ)
    → AreUnder T low high cells right → Ascend low (fan rows cells right)
fan_ascends T rows within up low high [] right under = up low high right under
fan_ascends T rows within up low high (c ∷ cs) right under =
    ascend_both low (rank c.key + 1) low (rows c.left) (fan rows cs right) (omega (arith, under.0)) (up low (rank c.key + 1) c.left under.2)
    (within low (rank c.key + 1) c.left under.2) (fan_ascends T rows within up (rank c.key + 1) high cs right under.3)

pub tree_ascends : (usable : ℕ) (pages : Paging) (height : ℕ) → HasAscending (IsTree usable pages height) (tree_rows usable pages height)
tree_ascends usable pages zero low high page tree = rows_ascend usable pages low high (node_cells usable pages page) tree.1
tree_ascends usable pages (suc height) low high page tree =
    fan_ascends (IsTree usable pages height) (tree_rows usable pages height) (tree_within usable pages height) (tree_ascends usable pages height) low high
    (node_cells usable pages page) (node_right usable pages page) tree.1

-- of two rowids one is lower
pub not_lower : (a b : ℤ) → int_lt a b ≡ true → int_lt b a ≡ false
not_lower a b less = grind (arith, ints, less)

-- another rowid of no higher rank is lower; that the first is one of 64 bits is wanted for the lowest
pub lower_other : (rowid key : ℤ) → mag rowid < 9223372036854775808 → nat_lt (rank rowid) (rank key) ≡ false → int_eq key rowid ≡ false → int_lt key rowid ≡ true
lower_other (pos m) (pos n) fits behind other = grind (arith, behind, other)
lower_other (pos m) (negsuc n) fits behind other = refl
lower_other (negsuc m) (pos n) fits behind other = absurd (grind (arith, fits, behind))
lower_other (negsuc m) (negsuc n) fits behind other = grind (arith, fits, behind, other)

-- a rowid of lower rank is lower, and one of another rank is another
pub rank_less : (a b : ℤ) → rank a < rank b → int_lt a b ≡ true
rank_less a b less = lower_rank a b less

pub rank_other : (a b : ℤ) → (rank a < rank b) ⊎ (rank b < rank a) → int_eq a b ≡ false
rank_other a b order = other_rowid a b order
