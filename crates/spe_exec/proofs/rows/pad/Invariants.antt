use Rattle.std.proofs.Common.{◌≡◌, ◌-◌, length}
use Rattle.spe_model.specs.Database.{padded}
use Rattle.spe_exec.proofs.rows.pad.Given as goal

abbrev pub invariant-loop-values : goal.invariant-loop-values
invariant-loop-values l = padded l.values.items l.count ≡ padded l.fn.values.items l.count

abbrev pub decreases-loop-values : goal.decreases-loop-values
decreases-loop-values l = l.count - length l.values.items
