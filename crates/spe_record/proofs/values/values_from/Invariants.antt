use Rattle.std.proofs.Common.{◌≡◌, ◌++◌, length, true}
use Rattle.spe_model.specs.Serial.{types_at}
use Rattle.spe_model.specs.Record.{are_texts}
use Rattle.spe_record.specs.Answers.{Fills, values_at}
use Rattle.spe_record.proofs.values.values_from.Given as goal

abbrev pub invariant-loop-left : goal.invariant-loop-left
invariant-loop-left l = record {
  found : l.found.items ++ values_at (types_at l.left) l.body ≡ values_at (types_at l.fn.types) l.fn.bytes;
  fits : Fills (types_at l.left) (length l.body);
  texts : are_texts l.found.items ≡ true;
}

abbrev pub decreases-loop-left : goal.decreases-loop-left
decreases-loop-left l = length l.left
