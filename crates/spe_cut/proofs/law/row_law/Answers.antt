use Rattle.spe_cut.proofs.KeptLemmas.{rows_stay}
use Rattle.spe_cut.proofs.OrderLemmas.{rows_ascend}
use Rattle.spe_cut.proofs.RowLemmas.{cell_adds_row, row_put, row_there}
use Rattle.spe_cut.proofs.law.row_law.Goals as goal

pub returns : goal.returns
returns c = record { added = cell_adds_row; put = row_put; there = row_there; stay = rows_stay; ascends = rows_ascend }
