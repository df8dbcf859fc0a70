use Rattle.std.proofs.Common.{◌≡◌, ◌+◌, ◌≤◌, length, min}
use Rattle.std.specs.Prelude.{sum_by}
use Rattle.spe_model.specs.Length.{body_length, fields}
use Rattle.spe_record.proofs.FieldsLemmas.{fields_from}
use Rattle.spe_record.proofs.length.bodies_length.Given as goal

abbrev pub invariant-loop-left : goal.invariant-loop-left
invariant-loop-left l = record {
  places : l.place + length l.left ≡ length l.fn.values;
  within : l.sum ≤ 18446744073709551615;
  sum :
      min (l.sum + sum_by body_length (fields_from l.alias l.place l.left)) 18446744073709551615
      ≡ min (sum_by body_length (fields l.alias l.fn.values)) 18446744073709551615;
}

abbrev pub decreases-loop-left : goal.decreases-loop-left
decreases-loop-left l = length l.left
