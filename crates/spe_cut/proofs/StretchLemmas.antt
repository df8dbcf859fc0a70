-- Some children of a run one behind the other become another run.
use Rattle.std.proofs.Common.{◌≡◌, ℕ, zero, suc, ℤ, ◌+◌, ◌≤◌, ◌∙◌, List, [], ◌∷◌, ◌++◌, refl, arith}
use Rattle.spe_model.specs.declared.page.Cell.{Cell}
use Rattle.spe_model.specs.Paging.{Paging}
use Rattle.spe_model.specs.Served.{HasCells}
use Rattle.spe_model.specs.Standing.{AreBelow, all_pages}
use Rattle.spe_model.specs.Tree.{AreUnder, IsTree, node_cells, node_right, rank, tree_rows}
use Rattle.spe_frame.proofs.TimesLemmas.{Each, each_from_holds, each_left, each_right}
use Rattle.spe_frame.proofs.TreeLemmas.{IsKept}
use Rattle.spe_cut.specs.Rows.{RowsBecome}
use Rattle.spe_cut.specs.Run.{IsRun, Place, Run, back, bound_after, cells_before, front, high_at, inner, last, low_at, pages_beside, pages_in, rows_in, with_run}
use Rattle.spe_cut.specs.Stretch.{RowOfStretch, RunIsWider, StretchBecomesRun, StretchOfRun}
use Rattle.spe_cut.proofs.ChildLemmas.{AreBehind, AreFilledBehind, back_kept, behind_higher, behind_kept, filled_behind_kept, filled_joined, middle_first, place_joined}
use Rattle.spe_cut.proofs.FanLemmas.{AreFront, AreLeft, all_left, below_halves, below_parts, bound_above, fan_run, under_halves, under_parts}
use Rattle.spe_cut.proofs.GoneLemmas.{rows_wider}
use Rattle.spe_cut.proofs.KeptLemmas.{child_filled, child_kept, child_pages, child_rows, filled_kept, front_kept, left_kept}
use Rattle.spe_cut.proofs.OrderLemmas.{front_lower, tree_orders, tree_within}
use Rattle.spe_cut.proofs.RowLemmas.{row_there}

-- a stretch at a place, and the children round it
record StretchParts (T : (low high page : ℕ) → Type 0) (low high : ℕ) (place : Place) (run : Run) : Type 0 where
  lower : AreFront T low (cells_before place)
  run_is : AreUnder T (low_at low place) (high_at high place) run.cells run.right
  higher : AreBehind T high place
  below : high_at high place ≤ high

stretch_parts : (T : (low high page : ℕ) → Type 0) (low high : ℕ) (place : Place) (run : Run)
    → AreUnder T low high (with_run place run).cells (with_run place run).right → StretchParts T low high place run
stretch_parts T low high (inner before c after right) run under =
    let parts = under_parts T low high before (run.cells ++ (record c { left = run.right } ∷ after)) right under in
    let halves = under_halves T (bound_after low before) high run.cells (record c { left = run.right }) after right parts.higher in
    record { lower = parts.lower; run_is = halves.first; higher = (halves.below, halves.second); below = omega (arith, halves.below) }
stretch_parts T low high (last before) run under =
    let parts = under_parts T low high before run.cells run.right under in
    record { lower = parts.lower; run_is = parts.higher; higher = tt; below = omega arith }

filled_stretch : (T : ℕ → Type 0) (place : Place) (run : Run) → AreBelow T (with_run place run).cells (with_run place run).right
    → AreLeft T (cells_before place) × AreBelow T run.cells run.right × AreFilledBehind T place
filled_stretch T (inner before c after right) run below =
    let parts = below_parts T before (run.cells ++ (record c { left = run.right } ∷ after)) right below in
    let halves = below_halves T run.cells (record c { left = run.right }) after right parts.1 in
    (parts.0, halves.0, halves.1)
filled_stretch T (last before) run below = let parts = below_parts T before run.cells run.right below in (parts.0, parts.1, tt)

pub stretch_of_run : StretchOfRun
stretch_of_run usable pages height low high place run is =
    let T = IsTree usable pages height in
    let own = all_pages usable pages height in
    let parts = stretch_parts T low high place run is in
    record {
      run = parts.run_is;
      above = bound_above T low (cells_before place) parts.lower;
      below = parts.below;
      filled = λ below. (filled_stretch (HasCells usable pages height) place run below).1;
      pages_are = middle_first _ (front own place) (pages_in usable pages height run) (back own place) (fan_run own place run);
    }

-- the rows round a stretch
stretch_rows : (usable : ℕ) (pages : Paging) (height low high : ℕ) (place : Place) (run : Run) (part' whole' : List (ℤ × List ℕ))
    → IsRun usable pages height low high (with_run place run)
    → whole' ≡ front (tree_rows usable pages height) place ++ (part' ++ back (tree_rows usable pages height) place)
    → RowsBecome (low_at low place) (high_at high place) (rows_in usable pages height run) part' (rows_in usable pages height (with_run place run)) whole'
stretch_rows usable pages height low high place run part' whole' is now =
    let T = IsTree usable pages height in
    let rows = tree_rows usable pages height in
    let parts = stretch_parts T low high place run is in
    record {
      before = front rows place;
      after = back rows place;
      lower = front_lower T rows (tree_within usable pages height) low (cells_before place) parts.lower;
      higher = behind_higher T rows (tree_within usable pages height) high place parts.higher;
      old = fan_run rows place run;
      new = now;
    }

pub row_of_stretch : RowOfStretch
row_of_stretch usable pages height low high place run rowid is from to =
    let part = rows_in usable pages height run in
    row_there (low_at low place) (high_at high place) part part _ _ rowid
    (stretch_rows usable pages height low high place run part _ is (fan_run (tree_rows usable pages height) place run)) from to

pub stretch_becomes_run : StretchBecomesRun
stretch_becomes_run usable old new height low high place stretch run changes =
    let K = IsKept old new in
    let all = all_pages usable old height in
    let T = IsTree usable old height in
    let T' = IsTree usable new height in
    let F = HasCells usable old height in
    let F' = HasCells usable new height in
    let rows = tree_rows usable old height in
    let each = each_from_holds K (pages_beside usable old height place) changes.others in
    let before : Each K (all_left all (cells_before place)) = each_left K (front all place) (back all place) each in
    let behind : Each K (back all place) = each_right K (front all place) (back all place) each in
    let parts = stretch_parts T low high place stretch changes.was in
    record {
      is = place_joined T' (tree_orders usable new height) low high place run
          (front_kept K all T T' (child_kept usable old new height) low (cells_before place) before parts.lower) changes.now changes.last
          (behind_kept K all T T' (child_kept usable old new height) high place behind parts.higher);
      rows = stretch_rows usable old height low high place stretch (rows_in usable new height run) _ changes.was
          (fan_run (tree_rows usable new height) place run
          ∙ rw (
            left_kept K all rows (tree_rows usable new height) (child_rows usable old new height) (cells_before place) before,
            back_kept K all rows (tree_rows usable new height) (child_rows usable old new height) place behind,
          ) refl);
      pages_are = middle_first _ (front all place) (pages_in usable new height run) (back all place)
          (fan_run (all_pages usable new height) place run
          ∙ rw (
            left_kept K all all (all_pages usable new height) (child_pages usable old new height) (cells_before place) before,
            back_kept K all all (all_pages usable new height) (child_pages usable old new height) place behind,
          ) refl);
      filled = λ were are.
          let filled = filled_stretch F place stretch were in
          filled_joined F' place run (filled_kept K all F F' (child_filled usable old new height) (cells_before place) before filled.0) are
          (filled_behind_kept K all F F' (child_filled usable old new height) place behind filled.2);
    }

-- trees that are trees between wider bounds
abbrev Widens : (T : (low high page : ℕ) → Type 0) → Type 0
Widens T = (low high low' high' page : ℕ) → T low high page → low' ≤ low → high ≤ high' → T low' high' page

under_wider : (T : (low high page : ℕ) → Type 0) → Widens T → (low high low' high' : ℕ) (cells : List Cell) (right : ℕ)
    → AreUnder T low high cells right → low' ≤ low → high ≤ high' → AreUnder T low' high' cells right
under_wider T widens low high low' high' [] right under from to = widens low high low' high' right under from to
under_wider T widens low high low' high' (c ∷ cs) right under from to = (
  omega (arith, under.0, from),
  omega (arith, under.1, to),
  widens low (rank c.key + 1) low' (rank c.key + 1) c.left under.2 from (omega arith),
  under_wider T widens (rank c.key + 1) high (rank c.key + 1) high' cs right under.3 (omega arith) to,
)

tree_wider : (usable : ℕ) (pages : Paging) (height : ℕ) → Widens (IsTree usable pages height)
tree_wider usable pages zero low high low' high' page tree from to =
    (tree.0, rows_wider usable pages low high low' high' (node_cells usable pages page) tree.1 from to)
tree_wider usable pages (suc height) low high low' high' page tree from to =
    (tree.0, under_wider (IsTree usable pages height) (tree_wider usable pages height) low high low' high' (node_cells usable pages page) (node_right usable pages page) tree.1 from to)

pub run_is_wider : RunIsWider
run_is_wider usable pages height low high low' high' run is from to =
    under_wider (IsTree usable pages height) (tree_wider usable pages height) low high low' high' run.cells run.right is from to
