use Rattle.std.proofs.Common.{◌≡◌, ◌+◌, ◌≤◌, length}
use Rattle.spe_format.specs.Canonical.{cells_length, AreInRange}
use Rattle.spe_format.proofs.CanonicalLemmas.{need}
use Rattle.spe_format.proofs.canonical.length_within.Given as goal

abbrev pub invariant-loop-left : goal.invariant-loop-left
invariant-loop-left l = record {
  sum : l.sum + cells_length l.kind l.left ≡ cells_length l.kind l.fn.cells;
  room : need l.kind l.left + l.most ≡ need l.kind l.fn.cells + l.room;
  within : l.sum + l.room ≤ l.most;
  ranges : AreInRange l.left → AreInRange l.fn.cells;
}

abbrev pub decreases-loop-left : goal.decreases-loop-left
decreases-loop-left l = length l.left
