use Rattle.std.proofs.Common.{◌≡◌, length}
use Rattle.spe_serve.specs.Row.{rows_stored}
use Rattle.spe_serve.proofs.RowLemmas.{behind}
use Rattle.spe_serve.proofs.row.rows.Given as goal

abbrev pub invariant-loop-left : goal.invariant-loop-left
invariant-loop-left l = behind l.found.items (rows_stored l.fn.table l.left) ≡ rows_stored l.fn.table l.fn.pairs

abbrev pub decreases-loop-left : goal.decreases-loop-left
decreases-loop-left l = length l.left
