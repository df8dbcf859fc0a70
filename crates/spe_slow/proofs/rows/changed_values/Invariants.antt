use Rattle.std.proofs.Common.{◌≡◌, map}
use Rattle.spe_slow.proofs.RowsLemmas.{changed_value}
use Rattle.spe_slow.proofs.rows.changed_values.Given as goal

abbrev pub invariant-loop-new : goal.invariant-loop-new
invariant-loop-new l = l.found.items ≡ map changed_value l.yielded
