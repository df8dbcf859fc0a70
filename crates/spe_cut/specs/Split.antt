-- A run that is cut at one of its cells: the cell's key parts the two halves, and its child is the last of the first half.
use Rattle.std.specs.Prelude.{◌≡◌, ℕ, suc, ◌+◌, ◌<◌, ◌≤◌, List, [], ◌∷◌, ◌++◌, length}
use Rattle.spe_model.specs.declared.page.Cell.{Cell}
use Rattle.spe_model.specs.Paging.{Paging}
use Rattle.spe_model.specs.Tree.{rank}
use Rattle.spe_frame.specs.Times.{AreSame}
use Rattle.spe_cut.specs.Run.{AreFilledBelow, HoldsRun, IsOpen, IsRun, Run, pages_in, rows_in, separator}

-- A run cut at its cell `middle`.
pub record Cut : Type 0 where
  pub lower : List Cell
  pub middle : Cell
  pub higher : List Cell
  pub right : ℕ

abbrev pub whole : Cut → Run
whole cut = record { cells = cut.lower ++ (cut.middle ∷ cut.higher); right = cut.right }

abbrev pub low_half : Cut → Run
low_half cut = record { cells = cut.lower; right = cut.middle.left }

abbrev pub high_half : Cut → Run
high_half cut = record { cells = cut.higher; right = cut.right }

-- two pages as a run, with the middle key between them
abbrev pub pair : Cut → (first second : ℕ) → Run
pair cut first second = record { cells = separator cut.middle.key first ∷ []; right = second }

-- the halves are runs, and have what the whole has
pub record AreHalves (usable : ℕ) (pages : Paging) (height low high : ℕ) (cut : Cut) : Type 0 where
  pub lower : IsRun usable pages height low (rank cut.middle.key + 1) (low_half cut)
  pub higher : IsRun usable pages height (rank cut.middle.key + 1) high (high_half cut)
  pub above : low ≤ rank cut.middle.key
  pub below : rank cut.middle.key < high
  pub rows : rows_in usable pages height (whole cut) ≡ rows_in usable pages height (low_half cut) ++ rows_in usable pages height (high_half cut)
  pub pages_are : pages_in usable pages height (whole cut) ≡ pages_in usable pages height (low_half cut) ++ pages_in usable pages height (high_half cut)
  pub filled : AreFilledBelow usable pages height (whole cut)
      → AreFilledBelow usable pages height (low_half cut) × AreFilledBelow usable pages height (high_half cut)

abbrev pub RunIsCut : Type 0
RunIsCut = (usable : ℕ) (pages : Paging) (height low high : ℕ) (cut : Cut)
    → IsRun usable pages height low high (whole cut) → AreHalves usable pages height low high cut

-- Two pages hold the halves of a run.
pub record HoldHalves (usable : ℕ) (pages : Paging) (height low high : ℕ) (cut : Cut) (first second : ℕ) : Type 0 where
  pub run : IsRun usable pages height low high (whole cut)
  pub lower : HoldsRun usable pages first (low_half cut)
  pub higher : HoldsRun usable pages second (high_half cut)

-- they are a run one level higher, and have what the run has
pub record ArePair (usable : ℕ) (pages : Paging) (height low high : ℕ) (cut : Cut) (first second : ℕ) : Type 0 where
  pub is : IsRun usable pages (suc height) low high (pair cut first second)
  pub last : 1 ≤ length cut.higher → IsOpen low high (pair cut first second)
  pub rows : rows_in usable pages (suc height) (pair cut first second) ≡ rows_in usable pages height (whole cut)
  pub pages_are : AreSame (pages_in usable pages (suc height) (pair cut first second)) (first ∷ second ∷ pages_in usable pages height (whole cut))
  pub filled : 1 ≤ length cut.lower → 1 ≤ length cut.higher → AreFilledBelow usable pages height (whole cut)
      → AreFilledBelow usable pages (suc height) (pair cut first second)

abbrev pub HalvesArePair : Type 0
HalvesArePair = (usable : ℕ) (pages : Paging) (height low high : ℕ) (cut : Cut) (first second : ℕ) → 5 ≤ usable
    → HoldHalves usable pages height low high cut first second → ArePair usable pages height low high cut first second
