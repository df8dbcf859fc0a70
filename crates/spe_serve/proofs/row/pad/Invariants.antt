use Rattle.std.proofs.Common.{◌≡◌, ◌≤◌, ◌-◌, vec_len}
use Rattle.spe_model.specs.Database.{padded}
use Rattle.spe_serve.proofs.row.pad.Given as goal

abbrev pub invariant-loop-values : goal.invariant-loop-values
invariant-loop-values l = record {
  few : vec_len l.values ≤ l.count;
  same : padded l.values.items l.count ≡ padded l.fn.values.items l.count;
}

abbrev pub decreases-loop-values : goal.decreases-loop-values
decreases-loop-values l = l.count - vec_len l.values
