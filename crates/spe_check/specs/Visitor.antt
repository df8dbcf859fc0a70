-- What comes of the rows of a table's tree.
use Rattle.std.specs.Prelude.{◌≡◌, ℕ, List}
use Rattle.spe_model.specs.Schema.{SchemaRow}
use Rattle.spe_model.specs.Walk.{RowMarks}
use Rattle.spe_space.specs.declared.fault.SpaceFault.TheVariants.{Memory}
use Rattle.spe_check.specs.declared.halt.Halt.{Halt}
use Rattle.spe_check.specs.declared.halt.Halt.TheVariants.{Broken, Space}

-- What is tried of a row, the rows of the schema with their leaves, and how many rows there are.
pub record Outlook : Type 0 where
  pub marks : RowMarks
  pub placed : List (ℕ × SchemaRow)
  pub count : ℕ

-- a visitor halts where a rule is broken or memory is wanting: it has no fault of a space
abbrev pub IsOwn : Halt → Type 0
IsOwn (Broken page rule) = Unit {0}
IsOwn (Space f) = f ≡ Memory
