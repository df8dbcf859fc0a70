use Rattle.std.proofs.Common.{◌≡◌}
use Rattle.spe_slow.specs.Table.{with_written}
use Rattle.spe_slow.proofs.stored.write_rows.Given as goal

abbrev pub invariant-loop-rowid : goal.invariant-loop-rowid
invariant-loop-rowid l = l.rows.entries ≡ with_written l.fn.rows.entries l.yielded
