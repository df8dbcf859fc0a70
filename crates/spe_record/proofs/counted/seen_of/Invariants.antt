use Rattle.std.proofs.Common.{◌≡◌, ◌+◌, ◌≤◌, length}
use Rattle.std.specs.Option.{option_map}
use Rattle.spe_model.specs.Serial.{types_at}
use Rattle.spe_record.specs.Counted.{seen_behind, seen_of}
use Rattle.spe_record.proofs.counted.seen_of.Given as goal

abbrev pub invariant-loop-left : goal.invariant-loop-left
invariant-loop-left l = record {
  seen : option_map (seen_behind l.seen l.values) (types_at l.left) ≡ option_map (seen_of l.fn.body) (types_at l.fn.types);
  few : l.seen.count + length l.left ≤ length l.fn.types;
  small : l.seen.total ≤ 18446744073709551615;
}

abbrev pub decreases-loop-left : goal.decreases-loop-left
decreases-loop-left l = length l.left
