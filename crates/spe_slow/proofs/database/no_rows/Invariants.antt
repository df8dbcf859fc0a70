use Rattle.std.proofs.Common.{◌≡◌, [], replicate}
use Rattle.spe_slow.specs.Tables.{held_rows}
use Rattle.spe_slow.proofs.database.no_rows.Given as goal

abbrev pub invariant-loop : goal.invariant-loop
invariant-loop l = held_rows l.rows.items ≡ replicate l.counter []
