-- A run cut in two, and the two pages that hold its halves.
use Rattle.std.proofs.Common.{◌≡◌, ℕ, suc, ℤ, ◌+◌, ◌<◌, ◌≤◌, ◌∙◌, List, [], ◌∷◌, ◌++◌, length, sym, ap, arith, inr}
use Rattle.spe_model.specs.declared.page.Cell.{Cell}
use Rattle.spe_model.specs.Served.{HasCells}
use Rattle.spe_model.specs.Standing.{all_pages}
use Rattle.spe_model.specs.Tree.{AreUnder, IsTree, rank, tree_rows}
use Rattle.spe_frame.specs.Times.{AreSame, one_if, times}
use Rattle.spe_frame.proofs.TimesLemmas.{times-append}
use Rattle.std.specs.Prelude.{◌==◌}
use Rattle.spe_cut.specs.Run.{pages_in, rows_in}
use Rattle.spe_cut.specs.Split.{HalvesArePair, RunIsCut, high_half, low_half}
use Rattle.spe_cut.proofs.FanLemmas.{below_halves, fan_parted, under_halves}
use Rattle.spe_cut.proofs.HolderLemmas.{holder_of_run}

pub run_is_cut : RunIsCut
run_is_cut usable pages height low high cut is =
    let halves = under_halves (IsTree usable pages height) low high cut.lower cut.middle cut.higher cut.right is in
    record {
      lower = halves.first;
      higher = halves.second;
      above = halves.above;
      below = halves.below;
      rows = fan_parted (tree_rows usable pages height) cut.lower cut.middle cut.higher cut.right;
      pages_are = fan_parted (all_pages usable pages height) cut.lower cut.middle cut.higher cut.right;
      filled = λ below. below_halves (HasCells usable pages height) cut.lower cut.middle cut.higher cut.right below;
    }

-- a rowid may stand behind cells that come before others
pub some_above : (T : (low high page : ℕ) → Type 0) (low high : ℕ) (cells : List Cell) (right : ℕ) → 1 ≤ length cells → AreUnder T low high cells right → low < high
some_above T low high [] right some under = absurd (omega (arith, some))
some_above T low high (c ∷ cs) right some under = omega (arith, under.0, under.1)

-- two roots, each before the pages below it
pub two_roots : (first second : ℕ) (xs ys : List ℕ) → AreSame ((first ∷ xs) ++ (second ∷ ys)) (first ∷ second ∷ (xs ++ ys))
two_roots first second xs ys n =
    count (times n (xs ++ (second ∷ ys))) (times n xs) (times n ys) (times n (xs ++ ys)) (one_if (n == first)) (one_if (n == second))
    (times-append n xs (second ∷ ys)) (times-append n xs ys)
  where
    count : (all x y both a b : ℕ) → all ≡ x + (b + y) → both ≡ x + y → a + all ≡ a + (b + both)
    count all x y both a b e f = omega (arith, e, f)

pub halves_are_pair : HalvesArePair
halves_are_pair usable pages height low high cut first second wide hold =
    let halves = run_is_cut usable pages height low high cut hold.run in
    let one = holder_of_run usable pages height low (rank cut.middle.key + 1) first (low_half cut) wide hold.lower halves.lower in
    let two = holder_of_run usable pages height (rank cut.middle.key + 1) high second (high_half cut) wide hold.higher halves.higher in
    let low_pages = pages_in usable pages height (low_half cut) in
    let high_pages = pages_in usable pages height (high_half cut) in
    record {
      is = (halves.above, halves.below, one.tree, two.tree);
      last = λ some. some_above (IsTree usable pages height) (rank cut.middle.key + 1) high cut.higher cut.right some halves.higher;
      rows = ap (λ (rows : List (ℤ × List ℕ)). rows ++ tree_rows usable pages (suc height) second) one.rows
          ∙ ap (λ (rows : List (ℤ × List ℕ)). rows_in usable pages height (low_half cut) ++ rows) two.rows ∙ sym halves.rows;
      pages_are = λ n.
          ap (times n) (ap (λ (ps : List ℕ). ps ++ all_pages usable pages (suc height) second) one.pages_are
          ∙ ap (λ (ps : List ℕ). (first ∷ low_pages) ++ ps) two.pages_are)
          ∙ two_roots first second low_pages high_pages n
          ∙ ap (λ (ps : List ℕ). times n (first ∷ second ∷ ps)) (sym halves.pages_are);
      filled = λ low_some high_some below.
          let parts = halves.filled below in
          (one.filled (inr low_some) parts.0, two.filled (inr high_some) parts.1);
    }
