use Rattle.std.proofs.Common.{length}
use Rattle.std.specs.List.{flat_map}
use Rattle.spe_model.specs.Recovery.{hot_of}
use Rattle.spe_stored.specs.Plan.{Leaves}
use Rattle.spe_stored.proofs.plan.restore_all.Given as goal

abbrev pub invariant-loop-left : goal.invariant-loop-left
invariant-loop-left l = Leaves (flat_map (hot_of l.files) l.left) (flat_map (hot_of l.files) l.fn.ids) l.fn.plan l.plan

abbrev pub decreases-loop-left : goal.decreases-loop-left
decreases-loop-left l = length l.left
