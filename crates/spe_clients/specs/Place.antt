-- The clients as they wait.
use Rattle.std.specs.Prelude.{List, map, reverse}
use Rattle.spe_model.specs.declared.transaction.Tx.{Tx}
use Rattle.spe_clients.specs.declared.place.Place.{Place}

-- the transactions of a client that waits
abbrev pub script_of : Place → List Tx
script_of p = reverse p.left.items

-- those of all that wait, of which the first is the last of the list
abbrev pub scripts_of : List Place → List (List Tx)
scripts_of places = map script_of (reverse places)
