use Rattle.std.proofs.Common.{[], refl}
use Rattle.std.proofs.Math.Nat.{le_refl}
use Rattle.spe_model.specs.Verdict.{tree_levels}
use Rattle.spe_model.specs.Walk.{levels_at_leaf}
use Rattle.spe_check.proofs.objects.try_closed.Goals as goal

pub returns-in-Ok-clause-tried : goal.returns-in-Ok-clause-tried
returns-in-Ok-clause-tried g c = λ usable pages shows holder is.
    ((c.in-Ok.ensures.tried usable pages shows (levels_at_leaf usable pages tree_levels c.args.root) holder [] is refl (le_refl 0)).0, refl)

pub returns-in-Err-clause-tried : goal.returns-in-Err-clause-tried
returns-in-Err-clause-tried g c = λ usable pages shows holder is.
    ((c.in-Err.ensures.tried usable pages shows (levels_at_leaf usable pages tree_levels c.args.root) holder [] is refl (le_refl 0)).0, tt)
