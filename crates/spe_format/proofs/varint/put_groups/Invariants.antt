use Rattle.std.proofs.Common.{◌≡◌, ◌≤◌, ◌++◌, drop}
use Rattle.spe_format.specs.Spelling.{groups}
use Rattle.spe_format.proofs.varint.put_groups.Given as goal

abbrev pub invariant-loop-at : goal.invariant-loop-at
invariant-loop-at l = record {
  within : l.at ≤ 9;
  written : groups l.at l.rest ++ drop l.at l.out ≡ groups l.count l.number ++ drop l.count l.fn.out;
}

abbrev pub decreases-loop-at : goal.decreases-loop-at
decreases-loop-at l = l.at
