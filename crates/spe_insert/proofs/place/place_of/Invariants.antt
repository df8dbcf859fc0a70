use Rattle.std.specs.Prelude.{◌≡◌, ◌+◌, length}
use Rattle.spe_insert.specs.Place.{place_for}
use Rattle.spe_insert.proofs.place.place_of.Given as goal

abbrev pub invariant-loop-left : goal.invariant-loop-left
invariant-loop-left l = record {
  place : l.place + place_for l.key l.left ≡ place_for l.key l.fn.cells;
  within : l.place + length l.left ≡ length l.fn.cells;
}

abbrev pub decreases-loop-left : goal.decreases-loop-left
decreases-loop-left l = length l.left
