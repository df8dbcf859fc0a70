-- The rows of a table, written one after the other.
use Rattle.std.specs.Prelude.{List}
use Rattle.std.specs.List.{fold}
use Rattle.std.specs.Ordering.{int_cmp}
use Rattle.std.specs.BTreeMap.{is_at}
use Rattle.std.specs.Map.{set_value}
use Rattle.spe_model.specs.Database.{Row}

-- the rows with others in the places of those that have their rowids
abbrev pub with_written : List Row → List Row → List Row
with_written rows new = fold (λ (held : List Row) (r : Row). set_value (is_at (int_cmp r.0)) held r.1) rows new
