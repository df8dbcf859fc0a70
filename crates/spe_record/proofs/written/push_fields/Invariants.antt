use Rattle.std.proofs.Common.{◌≡◌, ◌+◌, ◌++◌, length}
use Rattle.std.specs.List.{flat_map}
use Rattle.spe_model.specs.Length.{fields}
use Rattle.spe_record.specs.Written.{value_bytes, AreSound}
use Rattle.spe_record.proofs.FieldsLemmas.{fields_from}
use Rattle.spe_record.proofs.written.push_fields.Given as goal

abbrev pub invariant-loop-left : goal.invariant-loop-left
invariant-loop-left l = record {
  places : l.place + length l.left ≡ length l.fn.values;
  bytes : l.out.items ++ flat_map value_bytes (fields_from l.alias l.place l.left) ≡ l.fn.out.items ++ flat_map value_bytes (fields l.alias l.fn.values);
  sound : AreSound (fields_from l.alias l.place l.left) → AreSound (fields l.alias l.fn.values);
}

abbrev pub decreases-loop-left : goal.decreases-loop-left
decreases-loop-left l = length l.left
