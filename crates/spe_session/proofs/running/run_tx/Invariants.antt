use Rattle.spe_store.specs.Event.{entries_in}
use Rattle.spe_session.proofs.running.run_tx.Given as goal

abbrev pub ghosts-work : goal.ghosts-work
ghosts-work g a = record { begun = record { told = a.store.desk.told; entries = entries_in a.store.events; count = a.store.count; id = a.pass.id; first = a.base.first; reads = a.store.desk.reads } }
