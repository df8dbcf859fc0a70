use Rattle.spe_cut.proofs.GoneLemmas.{cell_drops_row, row_is_gone, row_is_taken}
use Rattle.spe_cut.proofs.less.gone_law.Goals as goal

pub returns : goal.returns
returns c = record { drops = cell_drops_row; taken = row_is_taken; gone = row_is_gone }
