-- Leaves that hold the parts of some rows.
use Rattle.std.proofs.Common.{◌≡◌, ℕ, ℤ, ◌+◌, ◌<◌, ◌≤◌, ◌∙◌, List, [], ◌∷◌, ◌++◌, length, map, refl, sym, ap, subst, arith, append_assoc}
use Rattle.std.proofs.lemmas.Grind.{flat_map-append}
use Rattle.std.proofs.lemmas.List.{map-append}
use Rattle.std.proofs.lemmas.List.Elements.{All-head, All-tail}
use Rattle.std.specs.List.{flat_map}
use Rattle.std.specs.Prelude.{◌==◌}
use Rattle.spe_model.specs.declared.page.Cell.{Cell}
use Rattle.spe_model.specs.declared.page.Kind.TheVariants.{TableLeaf}
use Rattle.spe_model.specs.Paging.{Paging}
use Rattle.spe_model.specs.Standing.{all_pages, chain_pages}
use Rattle.spe_model.specs.Tree.{AreRows, IsTree, cells_in, payload_of, rank, rows_of, tree_rows}
use Rattle.spe_frame.specs.Times.{AreSame, one_if, times}
use Rattle.spe_frame.proofs.TimesLemmas.{times-append}
use Rattle.spe_cut.specs.Leaf.{IsLeaf, Leaf, PartsAreRun, last_key, leaves_cells, leaves_run}
use Rattle.spe_cut.specs.Run.{pages_in, rows_in}
use Rattle.spe_cut.proofs.HolderLemmas.{IsMade, Reading}

-- the rows of some cells and of those behind them
record RowsParted (usable : ℕ) (pages : Paging) (low high : ℕ) (xs ys : List Cell) : Type 0 where
  first : AreRows usable pages low (rank (last_key xs) + 1) xs
  second : AreRows usable pages (rank (last_key xs) + 1) high ys
  above : low ≤ rank (last_key xs)
  below : rank (last_key xs) < high

rows_parted : (usable : ℕ) (pages : Paging) (low high : ℕ) (xs ys : List Cell) → 1 ≤ length xs → AreRows usable pages low high (xs ++ ys)
    → RowsParted usable pages low high xs ys
rows_parted usable pages low high [] ys some rows = absurd (omega (arith, some))
rows_parted usable pages low high (c ∷ []) ys some rows = record {
  first = (rows.0, omega arith, rows.2, omega arith);
  second = rows.3;
  above = rows.0;
  below = rows.1;
}
rows_parted usable pages low high (c ∷ d ∷ cs) ys some rows =
    let next = rows_parted usable pages (rank c.key + 1) high (d ∷ cs) ys (omega arith) rows.3 in
    record {
      first = (rows.0, omega (arith, next.above), rows.2, next.first);
      second = next.second;
      above = omega (arith, rows.0, next.above);
      below = next.below;
    }

some_row : (usable : ℕ) (pages : Paging) (low high : ℕ) (cells : List Cell) → 1 ≤ length cells → AreRows usable pages low high cells → low < high
some_row usable pages low high [] some rows = absurd (omega (arith, some))
some_row usable pages low high (c ∷ cs) some rows = omega (arith, rows.0, rows.1)

leaf_tree : (usable : ℕ) (pages : Paging) (low high : ℕ) (leaf : Leaf) → IsLeaf usable pages leaf → AreRows usable pages low high leaf.cells → IsTree usable pages 0 low high leaf.page
leaf_tree usable pages low high leaf is rows =
    let P : Reading → Type 0 = λ r. IsMade TableLeaf r × AreRows usable pages low high (cells_in r) in subst P (sym is) (refl, rows)

leaf_rows : (usable : ℕ) (pages : Paging) (leaf : Leaf) → IsLeaf usable pages leaf → tree_rows usable pages 0 leaf.page ≡ rows_of usable pages leaf.cells
leaf_rows usable pages leaf is = ap (λ (r : Reading). rows_of usable pages (cells_in r)) is

leaf_pages : (usable : ℕ) (pages : Paging) (leaf : Leaf) → IsLeaf usable pages leaf
    → all_pages usable pages 0 leaf.page ≡ leaf.page ∷ flat_map (chain_pages usable pages) leaf.cells
leaf_pages usable pages leaf is = ap (λ (r : Reading). leaf.page ∷ flat_map (chain_pages usable pages) (cells_in r)) is

-- the cells of the first leaf, and then those of the others
first_cells : (leaf : Leaf) (leaves : List Leaf) (end : Leaf) → leaves_cells (leaf ∷ leaves) end ≡ leaf.cells ++ leaves_cells leaves end
first_cells leaf leaves end = append_assoc leaf.cells (flat_map (λ (l : Leaf). l.cells) leaves) end.cells

-- a leaf with its chains before other leaves with theirs
leaf_first : (page : ℕ) (chains roots : List ℕ) (end : ℕ) (others rest : List ℕ) → AreSame rest (roots ++ (end ∷ others))
    → AreSame ((page ∷ chains) ++ rest) ((page ∷ roots) ++ (end ∷ (chains ++ others)))
leaf_first page chains roots end others rest same n =
    count (one_if (n == page)) (times n chains) (times n roots) (one_if (n == end)) (times n others) (times n rest) (times n (roots ++ (end ∷ others)))
    (times n (chains ++ rest)) (times n (chains ++ others)) (times n (roots ++ (end ∷ (chains ++ others))))
    (same n) (times-append n roots (end ∷ others)) (times-append n chains rest) (times-append n chains others) (times-append n roots (end ∷ (chains ++ others)))
  where
    count : (p c r e o all s cr co rc : ℕ) → all ≡ s → s ≡ r + (e + o) → cr ≡ c + all → co ≡ c + o → rc ≡ r + (e + co) → p + cr ≡ p + rc
    count p c r e o all s cr co rc a b d f g = omega (arith, a, b, d, f, g)

pub parts_are_run : PartsAreRun
parts_are_run usable pages low high [] end hold = record {
  is = leaf_tree usable pages low high end hold.last hold.rows;
  last = λ some. some_row usable pages low high end.cells some hold.rows;
  rows = leaf_rows usable pages end hold.last;
  pages_are = λ n. ap (times n) (leaf_pages usable pages end hold.last);
  filled = tt;
}
parts_are_run usable pages low high (leaf ∷ leaves) end hold =
    let rest = leaves_cells leaves end in
    let first : IsLeaf usable pages leaf = All-head (IsLeaf usable pages) leaf leaves hold.are in
    let some : 1 ≤ length leaf.cells = All-head (λ (l : Leaf). 1 ≤ length l.cells) leaf leaves hold.some in
    let parted = rows_parted usable pages low high leaf.cells rest some (subst (AreRows usable pages low high) (first_cells leaf leaves end) hold.rows) in
    let others = parts_are_run usable pages (rank (last_key leaf.cells) + 1) high leaves end (record {
      rows = parted.second;
      are = All-tail (IsLeaf usable pages) leaf leaves hold.are;
      last = hold.last;
      some = All-tail (λ (l : Leaf). 1 ≤ length l.cells) leaf leaves hold.some;
    }) in
    record {
      is = (parted.above, parted.below, leaf_tree usable pages low (rank (last_key leaf.cells) + 1) leaf first parted.first, others.is);
      last = others.last;
      rows = ap (λ (rows : List (ℤ × List ℕ)). rows ++ rows_in usable pages 0 (leaves_run leaves end)) (leaf_rows usable pages leaf first)
          ∙ ap (λ (rows : List (ℤ × List ℕ)). rows_of usable pages leaf.cells ++ rows) others.rows
          ∙ sym (map-append (λ (c : Cell). (c.key, payload_of usable pages c)) leaf.cells rest) ∙ ap (rows_of usable pages) (sym (first_cells leaf leaves end));
      pages_are = λ n.
          ap (λ (ps : List ℕ). times n (ps ++ pages_in usable pages 0 (leaves_run leaves end))) (leaf_pages usable pages leaf first)
          ∙ leaf_first leaf.page (flat_map (chain_pages usable pages) leaf.cells) (map (λ (l : Leaf). l.page) leaves) end.page
          (flat_map (chain_pages usable pages) rest) (pages_in usable pages 0 (leaves_run leaves end)) others.pages_are n
          ∙ ap (λ (ps : List ℕ). times n ((leaf.page ∷ map (λ (l : Leaf). l.page) leaves) ++ (end.page ∷ ps)))
          (sym (ap (flat_map (chain_pages usable pages)) (first_cells leaf leaves end) ∙ flat_map-append (chain_pages usable pages) leaf.cells rest));
      filled = (tt, others.filled);
    }
