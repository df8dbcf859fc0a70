use Rattle.spe_frame.proofs.ChainLemmas.{chain_stays}
use Rattle.spe_frame.proofs.ForestLemmas.{forest_stays}
use Rattle.spe_frame.proofs.PickLemmas.{picks, plants}
use Rattle.spe_frame.proofs.law.forest_law.Goals as goal

pub returns : goal.returns
returns g c = record { stays = forest_stays g.S.Pages; picks = picks g.S.Pages; plants = plants g.S.Pages; chain = chain_stays g.S.Pages }
