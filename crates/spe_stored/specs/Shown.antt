-- The operations of the code as those of a trace.
use Rattle.std.specs.Prelude.{ℕ, List, [], ◌∷◌, map, take, Option, Some, None}
use Rattle.spe_model.specs.Trace.{Operation}
use Rattle.spe_stored.specs.declared.operation.Write.{Write}
use Rattle.spe_stored.specs.declared.operation.Operation.{Operation as Held}
use Rattle.spe_stored.specs.declared.operation.Operation.TheVariants as held

abbrev pub write_shown : Write → Operation
write_shown write = Operation.Write write.file write.at write.bytes

abbrev pub shown : Held → Operation
shown (held.Write write) = write_shown write
shown (held.Cut file size) = Operation.Cut file size

abbrev pub all_shown : List Held → List Operation
all_shown ops = map shown ops

abbrev pub writes_shown : Option Write → List Operation
writes_shown None = []
writes_shown (Some write) = write_shown write ∷ []

-- the first bytes of a write
abbrev pub torn_shown : Option Write → ℕ → List Operation
torn_shown None n = []
torn_shown (Some write) n = Operation.Write write.file write.at (take n write.bytes) ∷ []

abbrev pub ops_shown : Option Held → List Operation
ops_shown None = []
ops_shown (Some op) = shown op ∷ []
