-- A child at a place becomes a run.
use Rattle.std.proofs.Common.{◌≡◌, ℕ, ℤ, ◌+◌, ◌<◌, ◌≤◌, ◌∙◌, List, [], ◌∷◌, ◌++◌, All, refl, ap, arith}
use Rattle.std.proofs.lemmas.List.Elements.{All-head, All-nil, All-tail}
use Rattle.spe_model.specs.declared.page.Cell.{Cell}
use Rattle.spe_model.specs.Paging.{Paging}
use Rattle.spe_model.specs.Served.{HasCells}
use Rattle.spe_model.specs.Standing.{AreBelow, all_pages}
use Rattle.spe_model.specs.Tree.{AreUnder, IsTree, fan, rank, tree_rows}
use Rattle.spe_frame.specs.Times.{AreSame, times}
use Rattle.spe_frame.proofs.TimesLemmas.{Each, each_from_holds, each_left, each_right, times-append}
use Rattle.spe_frame.proofs.TreeLemmas.{IsKept, below_kept, fan_kept, under_kept}
use Rattle.spe_cut.specs.Child.{AboveCells, ChildBecomesRun, ChildOfRun, RowOfChild}
use Rattle.spe_cut.specs.Rows.{AreHigher, RowsBecome}
use Rattle.spe_cut.specs.Run.{IsOpen, IsRun, Place, Run, back, bound_after, cells_before, front, high_at, inner, last, low_at, pages_beside, pages_in, rows_in, with_child, with_run}
use Rattle.spe_cut.proofs.FanLemmas.{AreFront, AreLeft, Orders, all_left, below_end, below_followed, below_joined, below_parts, bound_above, fan_child, fan_run, under_end, under_followed, under_joined, under_parts}
use Rattle.spe_cut.proofs.KeptLemmas.{child_filled, child_kept, child_pages, child_rows, filled_kept, front_kept, left_kept}
use Rattle.spe_cut.proofs.OrderLemmas.{HasWithin, fan_within, front_lower, higher_of, tree_orders, tree_within}
use Rattle.spe_cut.proofs.RowLemmas.{row_there}

-- a part in the middle, and then what stood round it
pub middle_first : (whole before part after : List ℕ) → whole ≡ before ++ (part ++ after) → AreSame whole (part ++ (before ++ after))
middle_first whole before part after is n =
    ap (times n) is ∙ count (times n (before ++ (part ++ after))) (times n before) (times n part) (times n after) (times n (part ++ after)) (times n (before ++ after)) (times n (part ++ (before ++ after)))
    (times-append n before (part ++ after)) (times-append n part after) (times-append n before after) (times-append n part (before ++ after))
  where
    count : (all a b c bc ac bac : ℕ) → all ≡ a + bc → bc ≡ b + c → ac ≡ a + c → bac ≡ b + ac → all ≡ bac
    count all a b c bc ac bac e f g h = omega (arith, e, f, g, h)

-- the trees behind a place
abbrev pub AreBehind : (T : (low high page : ℕ) → Type 0) (high : ℕ) → Place → Type 0
AreBehind T high (inner before c after right) = (rank c.key < high) × AreUnder T (rank c.key + 1) high after right
AreBehind T high (last before) = Unit {0}

abbrev pub AreFilledBehind : (T : ℕ → Type 0) → Place → Type 0
AreFilledBehind T (inner before c after right) = AreBelow T after right
AreFilledBehind T (last before) = Unit {0}

-- a child at a place, and those round it
record PlaceParts (T : (low high page : ℕ) → Type 0) (low high : ℕ) (place : Place) (child : ℕ) : Type 0 where
  lower : AreFront T low (cells_before place)
  tree : T (low_at low place) (high_at high place) child
  higher : AreBehind T high place
  below : high_at high place ≤ high

place_parts : (T : (low high page : ℕ) → Type 0) (low high : ℕ) (place : Place) (child : ℕ)
    → AreUnder T low high (with_child place child).cells (with_child place child).right → PlaceParts T low high place child
place_parts T low high (inner before c after right) child under =
    let parts = under_parts T low high before (record c { left = child } ∷ after) right under in
    record { lower = parts.lower; tree = parts.higher.2; higher = (parts.higher.1, parts.higher.3); below = omega (arith, parts.higher.1) }
place_parts T low high (last before) child under =
    let parts = under_end T low high before child under in
    record { lower = parts.lower; tree = parts.end; higher = tt; below = omega arith }

pub place_joined : (T : (low high page : ℕ) → Type 0) → Orders T → (low high : ℕ) (place : Place) (run : Run)
    → AreFront T low (cells_before place) → AreUnder T (low_at low place) (high_at high place) run.cells run.right → IsOpen (low_at low place) (high_at high place) run
    → AreBehind T high place → AreUnder T low high (with_run place run).cells (with_run place run).right
place_joined T orders low high (inner before c after right) run lower is fits higher =
    under_joined T orders low high before (run.cells ++ (record c { left = run.right } ∷ after)) right (record {
      lower = lower;
      higher = under_followed T orders (bound_after low before) high (rank c.key) run.cells (record c { left = run.right }) after right refl is (omega (arith, fits)) higher.0 higher.1;
    })
place_joined T orders low high (last before) run lower is fits higher =
    under_joined T orders low high before run.cells run.right (record { lower = lower; higher = is })

filled_parts : (T : ℕ → Type 0) (place : Place) (child : ℕ) → AreBelow T (with_child place child).cells (with_child place child).right
    → AreLeft T (cells_before place) × T child × AreFilledBehind T place
filled_parts T (inner before c after right) child below =
    let parts = below_parts T before (record c { left = child } ∷ after) right below in (parts.0, parts.1.0, parts.1.1)
filled_parts T (last before) child below = let parts = below_end T before child below in (parts.0, parts.1, tt)

pub filled_joined : (T : ℕ → Type 0) (place : Place) (run : Run) → AreLeft T (cells_before place) → AreBelow T run.cells run.right → AreFilledBehind T place
    → AreBelow T (with_run place run).cells (with_run place run).right
filled_joined T (inner before c after right) run lower below higher =
    below_joined T before (run.cells ++ (record c { left = run.right } ∷ after)) right lower (below_followed T run.cells (record c { left = run.right }) after right below higher)
filled_joined T (last before) run lower below higher = below_joined T before run.cells run.right lower below

-- those behind a place keep what they have
pub behind_kept : (K : ℕ → Type 0) (all : ℕ → List ℕ) (T T' : (low high page : ℕ) → Type 0) → ((low high page : ℕ) → Each K (all page) → T low high page → T' low high page)
    → (high : ℕ) (place : Place) → Each K (back all place) → AreBehind T high place → AreBehind T' high place
behind_kept K all T T' each high (inner before c after right) kept are = (are.0, under_kept K all T T' each (rank c.key + 1) high after right kept are.1)
behind_kept K all T T' each high (last before) kept are = tt

pub filled_behind_kept : (K : ℕ → Type 0) (all : ℕ → List ℕ) (T T' : ℕ → Type 0) → ((page : ℕ) → Each K (all page) → T page → T' page)
    → (place : Place) → Each K (back all place) → AreFilledBehind T place → AreFilledBehind T' place
filled_behind_kept K all T T' each (inner before c after right) kept are = below_kept K all T T' each after right kept are
filled_behind_kept K all T T' each (last before) kept are = tt

pub back_kept : {X : Type 0} (K : ℕ → Type 0) (all : ℕ → List ℕ) (own own' : ℕ → List X) → ((page : ℕ) → Each K (all page) → own' page ≡ own page)
    → (place : Place) → Each K (back all place) → back own' place ≡ back own place
back_kept K all own own' each (inner before c after right) kept = fan_kept K all own own' each after right kept
back_kept K all own own' each (last before) kept = refl

pub behind_higher : (T : (low high page : ℕ) → Type 0) (rows : ℕ → List (ℤ × List ℕ)) → HasWithin T rows → (high : ℕ) (place : Place)
    → AreBehind T high place → AreHigher (high_at high place) (back rows place)
behind_higher T rows has high (inner before c after right) are =
    higher_of (rank c.key + 1) high (fan rows after right) (fan_within T rows has (rank c.key + 1) high after right are.1)
behind_higher T rows has high (last before) are = All-nil (λ (r : ℤ × List ℕ). high ≤ rank r.0)

pub child_of_run : ChildOfRun
child_of_run usable pages height low high place child is =
    let T = IsTree usable pages height in
    let own = all_pages usable pages height in
    let parts = place_parts T low high place child is in
    record {
      tree = parts.tree;
      above = bound_above T low (cells_before place) parts.lower;
      below = parts.below;
      filled = λ below. (filled_parts (HasCells usable pages height) place child below).1;
      pages_are = middle_first _ (front own place) (own child) (back own place) (fan_child own place child);
    }

-- the rows round a child
place_rows : (usable : ℕ) (pages : Paging) (height low high : ℕ) (place : Place) (child : ℕ) (part' whole' : List (ℤ × List ℕ))
    → IsRun usable pages height low high (with_child place child)
    → whole' ≡ front (tree_rows usable pages height) place ++ (part' ++ back (tree_rows usable pages height) place)
    → RowsBecome (low_at low place) (high_at high place) (tree_rows usable pages height child) part' (rows_in usable pages height (with_child place child)) whole'
place_rows usable pages height low high place child part' whole' is now =
    let T = IsTree usable pages height in
    let rows = tree_rows usable pages height in
    let parts = place_parts T low high place child is in
    record {
      before = front rows place;
      after = back rows place;
      lower = front_lower T rows (tree_within usable pages height) low (cells_before place) parts.lower;
      higher = behind_higher T rows (tree_within usable pages height) high place parts.higher;
      old = fan_child rows place child;
      new = now;
    }

pub row_of_child : RowOfChild
row_of_child usable pages height low high place child rowid is from to =
    let rows = tree_rows usable pages height in
    row_there (low_at low place) (high_at high place) (rows child) (rows child) _ _ rowid
    (place_rows usable pages height low high place child (rows child) _ is (fan_child rows place child)) from to

above_all : (low key : ℕ) (cells : List Cell) → low ≤ key → All (λ (d : Cell). rank d.key < key) cells → bound_after low cells ≤ key
above_all low key [] order lower = order
above_all low key (c ∷ cs) order lower =
    let P : Cell → Type 0 = λ d. rank d.key < key in
    let first : rank c.key < key = All-head P c cs lower in
    above_all (rank c.key + 1) key cs (omega (arith, first)) (All-tail P c cs lower)

pub above_cells : AboveCells
above_cells low key place order lower = above_all low key (cells_before place) order lower

pub child_becomes_run : ChildBecomesRun
child_becomes_run usable old new height low high place child run grows =
    let K = IsKept old new in
    let all = all_pages usable old height in
    let T = IsTree usable old height in
    let T' = IsTree usable new height in
    let F = HasCells usable old height in
    let F' = HasCells usable new height in
    let rows = tree_rows usable old height in
    let each = each_from_holds K (pages_beside usable old height place) grows.others in
    let before : Each K (all_left all (cells_before place)) = each_left K (front all place) (back all place) each in
    let behind : Each K (back all place) = each_right K (front all place) (back all place) each in
    let parts = place_parts T low high place child grows.was in
    record {
      is = place_joined T' (tree_orders usable new height) low high place run
          (front_kept K all T T' (child_kept usable old new height) low (cells_before place) before parts.lower) grows.grown grows.last
          (behind_kept K all T T' (child_kept usable old new height) high place behind parts.higher);
      rows = place_rows usable old height low high place child (rows_in usable new height run) _ grows.was
          (fan_run (tree_rows usable new height) place run
          ∙ rw (
            left_kept K all rows (tree_rows usable new height) (child_rows usable old new height) (cells_before place) before,
            back_kept K all rows (tree_rows usable new height) (child_rows usable old new height) place behind,
          ) refl);
      pages_are = middle_first _ (front all place) (pages_in usable new height run) (back all place)
          (fan_run (all_pages usable new height) place run
          ∙ rw (
            left_kept K all all (all_pages usable new height) (child_pages usable old new height) (cells_before place) before,
            back_kept K all all (all_pages usable new height) (child_pages usable old new height) place behind,
          ) refl);
      filled = λ were are.
          let parts = filled_parts F place child were in
          filled_joined F' place run (filled_kept K all F F' (child_filled usable old new height) (cells_before place) before parts.0) are
          (filled_behind_kept K all F F' (child_filled usable old new height) place behind parts.2);
    }
