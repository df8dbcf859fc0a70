use Rattle.spe_cut.proofs.DepthLemmas.{filled_wide, single_wide, stays_low}
use Rattle.spe_cut.proofs.law.depth_law.Goals as goal

pub returns : goal.returns
returns c = record { filled = filled_wide; single = single_wide; low = stays_low }
