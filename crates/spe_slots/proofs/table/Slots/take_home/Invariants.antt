use Rattle.std.specs.Prelude.{None}
use Rattle.spe_slotrule.specs.Views.{session_part}
use Rattle.spe_slotrule.specs.Tells.{store_session, taking_home, with_out}
use Rattle.spe_slots.proofs.table.Slots.take_home.Given as goal

abbrev pub ghosts-tell_session : goal.ghosts-tell_session
ghosts-tell_session g a = let p = session_part a.session.now.me.0 in record { after = store_session (taking_home p.out p.number a.store.now.part) (with_out None p) }
