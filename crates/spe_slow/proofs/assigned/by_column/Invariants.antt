use Rattle.std.proofs.Common.{◌≡◌, ◌-◌, ◌++◌, map, length}
use Rattle.std.specs.List.{range_with_len}
use Rattle.std.specs.Option.{option_copied}
use Rattle.spe_model.specs.declared.naming.Named.TheVariants as named
use Rattle.spe_model.specs.Assigned.{assignments, given_to, by_column}
use Rattle.spe_slow.proofs.assigned.by_column.Given as goal

abbrev pub invariant-loop-place : goal.invariant-loop-place
invariant-loop-place l =
    map option_copied l.found.items ++ map (λ place. given_to (named.Column place) (assignments l.table l.statement)) (range_with_len l.place (length l.table.columns - l.place))
    ≡ by_column l.table (assignments l.table l.statement)
