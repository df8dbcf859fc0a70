use Rattle.std.proofs.Common.{length}
use Rattle.spe_catalog.specs.Reading.{IsReading}
use Rattle.spe_catalog.proofs.reading.read_rows.Given as goal

abbrev pub invariant-loop-left : goal.invariant-loop-left
invariant-loop-left l = IsReading l.fn.pairs l.left l.rows.items l.names

abbrev pub decreases-loop-left : goal.decreases-loop-left
decreases-loop-left l = length l.left
