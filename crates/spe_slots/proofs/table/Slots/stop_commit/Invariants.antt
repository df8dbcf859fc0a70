use Rattle.std.specs.Prelude.{Some}
use Rattle.spe_slotrule.specs.Views.{session_part}
use Rattle.spe_slotrule.specs.Tells.{store_session, stopping, stopped_at}
use Rattle.spe_slots.specs.Told.{stopped_entry}
use Rattle.spe_slots.proofs.table.Slots.stop_commit.Given as goal

abbrev pub ghosts-tell_session : goal.ghosts-tell_session
ghosts-tell_session g a = let p = session_part a.session.now.me.0 in let e = stopped_entry a.about.0.now a.store.now.part p in record { after = store_session (stopping a.about.1 (Some e) a.store.now.part) (stopped_at a.about.1 e p) }
