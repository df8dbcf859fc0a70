use Rattle.spe_slotrule.specs.Tells.{store_session, longer, committing}
use Rattle.spe_slots.specs.Told.{entry}
use Rattle.spe_slots.proofs.table.Slots.add_commit.Given as goal

abbrev pub ghosts-add : goal.ghosts-add
ghosts-add g a = let e = entry a.log.now a.ops a.store.now.part a.session.now.part in record { after = store_session (longer e a.store.now.part) (committing e a.store.now.part a.session.now.part) }
