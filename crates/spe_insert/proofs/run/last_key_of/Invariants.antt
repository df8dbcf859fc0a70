use Rattle.std.specs.Prelude.{◌≡◌, pos, length}
use Rattle.spe_insert.specs.Run.{last_from}
use Rattle.spe_insert.proofs.run.last_key_of.Given as goal

abbrev pub invariant-loop-left : goal.invariant-loop-left
invariant-loop-left l = last_from l.key l.left ≡ last_from (pos 0) l.fn.cells

abbrev pub decreases-loop-left : goal.decreases-loop-left
decreases-loop-left l = length l.left
