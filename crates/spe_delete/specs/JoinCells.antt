-- The children of two pages on one.
use Rattle.std.specs.Prelude.{ℤ}
use Rattle.spe_cut.specs.Run.{Run, separator}
use Rattle.spe_cut.specs.Split.{Cut, whole}

-- two runs with a key between them, as one that is cut there
abbrev pub cut_of : (first : Run) (key : ℤ) (second : Run) → Cut
cut_of first key second = record { lower = first.cells; middle = separator key first.right; higher = second.cells; right = second.right }

abbrev pub joined_of : (first : Run) (key : ℤ) (second : Run) → Run
joined_of first key second = whole (cut_of first key second)
