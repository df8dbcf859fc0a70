-- A table of a catalog by its name.
use Rattle.std.specs.Prelude.{ℕ, Bool, List, Option}
use Rattle.std.specs.List.{find}
use Rattle.spe_model.specs.declared.catalog.Entry.{Entry}
use Rattle.spe_model.specs.Agree.{agree}

abbrev pub is_named : List ℕ → Entry → Bool
is_named name entry = agree entry.table.name name

-- the first table of a name
abbrev pub entry_named : List ℕ → List Entry → Option Entry
entry_named name entries = find (is_named name) entries
