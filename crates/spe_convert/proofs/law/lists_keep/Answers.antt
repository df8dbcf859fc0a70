use Rattle.spe_convert.proofs.CountLemmas.{count_keeps}
use Rattle.spe_convert.proofs.PrepareLemmas.{prepare_keeps}
use Rattle.spe_convert.proofs.ReleaseLemmas.{release_keeps}
use Rattle.spe_convert.proofs.law.lists_keep.Goals as goal

pub returns : goal.returns
returns c = record { prepare = prepare_keeps; release = release_keeps; count = count_keeps }
