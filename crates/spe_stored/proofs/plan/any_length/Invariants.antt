use Rattle.std.proofs.Common.{◌≡◌, length}
use Rattle.std.specs.List.{list_any}
use Rattle.spe_model.specs.Rollback.{has_length}
use Rattle.spe_stored.proofs.plan.any_length.Given as goal

abbrev pub invariant-loop-left : goal.invariant-loop-left
invariant-loop-left l = list_any (has_length l.files) l.left ≡ list_any (has_length l.files) l.fn.ids

abbrev pub decreases-loop-left : goal.decreases-loop-left
decreases-loop-left l = length l.left
