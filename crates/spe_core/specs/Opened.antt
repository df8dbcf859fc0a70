-- An event with its fields laid open.
use Rattle.spe_core.specs.declared.event.Event.{Event}
use Rattle.spe_core.specs.declared.event.Event.TheOpen.{Event-F}

abbrev pub Opened : Type 0
Opened = Event-F Event
