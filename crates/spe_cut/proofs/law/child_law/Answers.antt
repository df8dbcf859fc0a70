use Rattle.spe_cut.proofs.ChildLemmas.{above_cells, child_becomes_run, child_of_run, row_of_child}
use Rattle.spe_cut.proofs.law.child_law.Goals as goal

pub returns : goal.returns
returns c = record { child = child_of_run; row = row_of_child; above = above_cells; grows = child_becomes_run }
