-- The column that is another name of the rowid, in a table that has one.
use Rattle.std.specs.Prelude.{ℕ, Bool, false, ◌==◌, List, map, Option, if◌then◌else◌}
use Rattle.std.specs.List.{enumerate_from}
use Rattle.std.specs.Option.{option_map_or}
use Rattle.spe_model.specs.declared.value.Value.{Value}

abbrev pub is_alias : Option ℕ → ℕ → Bool
is_alias alias place = option_map_or (λ a. a == place) alias false

-- the values with this one in that column
abbrev pub with_alias : Option ℕ → Value → List Value → List Value
with_alias alias value values = map (λ (x : ℕ × Value). if is_alias alias x.0 then value else x.1) (enumerate_from 0 values)
