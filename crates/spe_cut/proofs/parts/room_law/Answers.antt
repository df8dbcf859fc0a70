use Rattle.spe_cut.proofs.RoomLemmas.{run_is_writable, run_takes_room}
use Rattle.spe_cut.proofs.parts.room_law.Goals as goal

pub returns-clause-few : goal.returns-clause-few
returns-clause-few c = run_takes_room

pub returns-clause-writable : goal.returns-clause-writable
returns-clause-writable c = run_is_writable
