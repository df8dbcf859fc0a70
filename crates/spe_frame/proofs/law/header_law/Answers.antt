use Rattle.spe_frame.proofs.HeaderLemmas.{header_stays, valid_is_counted}
use Rattle.spe_frame.proofs.law.header_law.Goals as goal

pub returns : goal.returns
returns c = record { stays = header_stays; counted = valid_is_counted }
