use Rattle.std.proofs.Common.{◌≡◌, ◌+◌, ◌*◌, ◌≤◌, length}
use Rattle.std.specs.Prelude.{slice_range}
use Rattle.spe_format.specs.Canonical.{splice}
use Rattle.spe_format.specs.Packed.{moved_offsets}
use Rattle.spe_format.proofs.packed.move_offsets.Given as goal

abbrev pub invariant-loop-left : goal.invariant-loop-left
invariant-loop-left l = record {
  few : l.left ≤ l.count;
  moved : l.page ≡ splice (l.from + 2 + 2 * l.left) (moved_offsets l.by (slice_range l.fn.page (l.from + 2 * l.left) (l.from + 2 * l.count))) l.fn.page;
}

abbrev pub decreases-loop-left : goal.decreases-loop-left
decreases-loop-left l = l.left
