use Rattle.std.proofs.Common.{◌≤◌, length}
use Rattle.spe_format.specs.Packed.{HasTrail}
use Rattle.spe_format.proofs.slot.slot_among.Given as goal

abbrev pub invariant-loop-left : goal.invariant-loop-left
invariant-loop-left l = record {
  few : l.slot.count ≤ 65536;
  within : l.slot.low ≤ length l.page;
  has : HasTrail l.page l.fn.array l.left l.last l.key l.slot;
}

abbrev pub decreases-loop-left : goal.decreases-loop-left
decreases-loop-left l = length l.left
