use Rattle.std.proofs.Common.{◌≡◌, ◌++◌, length, map}
use Rattle.std.specs.Prelude.{filter}
use Rattle.spe_model.specs.Rollback.{cut_of, has_length}
use Rattle.spe_stored.specs.Shown.{all_shown}
use Rattle.spe_stored.proofs.plan.cut_journals.Given as goal

abbrev pub invariant-loop-left : goal.invariant-loop-left
invariant-loop-left l =
    all_shown l.ops.items ++ map cut_of (filter (has_length l.files) l.left)
    ≡ all_shown l.fn.ops.items ++ map cut_of (filter (has_length l.files) l.fn.ids)

abbrev pub decreases-loop-left : goal.decreases-loop-left
decreases-loop-left l = length l.left
