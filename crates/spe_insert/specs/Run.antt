-- Runs of children, as code has them.
use Rattle.std.specs.Prelude.{ℤ, List, [], ◌∷◌}
use Rattle.spe_model.specs.declared.page.Cell.{Cell}
use Rattle.spe_cut.specs.Run.{Run}
use Rattle.spe_insert.specs.declared.run.Run.{Run as Held}

abbrev pub run_of : Held → Run
run_of run = record { cells = run.cells; right = run.right }

-- the run behind one cell more
abbrev pub with_first : Cell → Run → Run
with_first c run = record { cells = c ∷ run.cells; right = run.right }

-- the rowid of the last of some cells, or one where there is none
abbrev pub last_from : ℤ → List Cell → ℤ
last_from key [] = key
last_from key (c ∷ cs) = last_from c.key cs
