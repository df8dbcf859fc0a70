use Rattle.std.proofs.Common.{◌≡◌, ◌-◌, ◌++◌, map, length}
use Rattle.std.specs.List.{range_with_len}
use Rattle.spe_slow.proofs.RowsLemmas.{new_value}
use Rattle.spe_slow.proofs.rows.new_values.Given as goal

abbrev pub invariant-loop-place : goal.invariant-loop-place
invariant-loop-place l =
    l.found.items ++ map (new_value l.table l.statement l.rowid) (range_with_len l.place (length l.table.columns - l.place))
    ≡ map (new_value l.table l.statement l.rowid) (range_with_len 0 (length l.table.columns))
