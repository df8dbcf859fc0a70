-- A whole table lies between the least and the greatest rowid.
use Rattle.std.proofs.Common.{◌≡◌, ℕ, zero, suc, ℤ, ◌+◌, ◌<◌, ◌≤◌, true, ◌&&◌, leb, List, [], ◌∷◌, ◌++◌, filter, refl, ◌∙◌, arith}
use Rattle.std.proofs.lemmas.List.Elements.{filter-append}
use Rattle.spe_model.specs.declared.page.Cell.{Cell}
use Rattle.spe_model.specs.Paging.{Paging}
use Rattle.spe_model.specs.Range.{between, is_between}
use Rattle.spe_model.specs.Tree.{rank, IsTree, IsTableTree, AreRows, AreUnder, tree_rows, rows_of, fan, node_cells, node_right}

abbrev most : ℕ
most = 18446744073709551616

abbrev whole : List (ℤ × List ℕ) → Type 0
whole rows = filter (is_between 0 18446744073709551615) rows ≡ rows

le_yes : (a b : ℕ) → a ≤ b → leb a b ≡ true
le_yes a b h = grind arith

is_inside : (n : ℕ) → n < most → (leb 0 n && leb n 18446744073709551615) ≡ true
is_inside n h = rw (le_yes 0 n (omega arith), le_yes n 18446744073709551615 (omega arith)) refl

cells_whole : (usable : ℕ) (pages : Paging) (low high : ℕ) (cells : List Cell) → high ≤ most → AreRows usable pages low high cells → whole (rows_of usable pages cells)
cells_whole usable pages low high [] few are = refl
cells_whole usable pages low high (c ∷ cs) few are =
    rw (is_inside (rank c.key) (omega (arith, are.1, few)), cells_whole usable pages (rank c.key + 1) high cs few are.3) refl

both_whole : (xs ys : List (ℤ × List ℕ)) → whole xs → whole ys → whole (xs ++ ys)
both_whole xs ys x y = filter-append (is_between 0 18446744073709551615) xs ys ∙ rw (x, y) refl

fan_whole : (T : ℕ → ℕ → ℕ → Type 0) (rows : ℕ → List (ℤ × List ℕ)) → ((low high page : ℕ) → high ≤ most → T low high page → whole (rows page))
    → (low high : ℕ) (cells : List Cell) (right : ℕ) → high ≤ most → AreUnder T low high cells right → whole (fan rows cells right)
fan_whole T rows each low high [] right few under = each low high right few under
fan_whole T rows each low high (c ∷ cs) right few under =
    both_whole (rows c.left) (fan rows cs right) (each low (rank c.key + 1) c.left (omega (arith, under.1, few)) under.2)
    (fan_whole T rows each (rank c.key + 1) high cs right few under.3)

tree_whole : (usable : ℕ) (pages : Paging) (height low high page : ℕ) → high ≤ most → IsTree usable pages height low high page → whole (tree_rows usable pages height page)
tree_whole usable pages zero low high page few tree = cells_whole usable pages low high (node_cells usable pages page) few tree.1
tree_whole usable pages (suc height) low high page few tree =
    fan_whole (IsTree usable pages height) (tree_rows usable pages height) (tree_whole usable pages height) low high (node_cells usable pages page) (node_right usable pages page) few
    tree.1

pub all_between : (usable : ℕ) (pages : Paging) (height root : ℕ) → IsTableTree usable pages height root
    → between 0 18446744073709551615 (tree_rows usable pages height root) ≡ tree_rows usable pages height root
all_between usable pages height root tree = tree_whole usable pages height 0 most root (omega arith) tree.1
