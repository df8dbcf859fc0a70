-- Why an entry of a journal can't be made.
use Rattle.spe_model.specs.Faults.{Rose}
use Rattle.spe_store.specs.declared.stop.Mishap.{Mishap}
use Rattle.spe_store.specs.declared.stop.Mishap.TheVariants.{Reading, Memory}
use Rattle.spe_store.specs.Desk.{Desk}

abbrev pub IsMishap : (old new : Desk) → Mishap → Type 0
IsMishap old new Reading = Rose old.reads new.reads
IsMishap old new Memory = Unit {0}
