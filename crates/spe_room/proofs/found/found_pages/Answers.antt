use Rattle.spe_room.proofs.FoundLemmas.{found_are}
use Rattle.spe_room.proofs.found.found_pages.Goals as goal

pub returns : goal.returns
returns c = found_are
