use Rattle.spe_cut.proofs.ChangedLemmas.{cell_changes_row, row_is_changed}
use Rattle.spe_cut.proofs.law.change_law.Goals as goal

pub returns : goal.returns
returns c = record { cell = cell_changes_row; changed = row_is_changed }
