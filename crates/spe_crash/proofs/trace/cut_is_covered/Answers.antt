use Rattle.spe_crash.proofs.TraceLemmas.{cut_covered, cut_whole}
use Rattle.spe_crash.proofs.trace.cut_is_covered.Goals as goal

pub returns : goal.returns
returns c = record { whole = cut_whole; covered = cut_covered }
