use Rattle.std.proofs.Common.{◌≡◌, ◌++◌, map, length}
use Rattle.spe_model.specs.Rows.{shown}
use Rattle.spe_slow.proofs.rows.shown_all.Given as goal

abbrev pub invariant-loop-left : goal.invariant-loop-left
invariant-loop-left l = l.found.items ++ map (shown (l.rowid, l.values)) l.left ≡ map (shown (l.rowid, l.values)) l.fn.names

abbrev pub decreases-loop-left : goal.decreases-loop-left
decreases-loop-left l = length l.left
