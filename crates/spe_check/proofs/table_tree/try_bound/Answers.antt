use Rattle.std.proofs.Common.{Bool, [], ◌∷◌, subst}
use Rattle.spe_model.specs.Walk.{Keeps}
use Rattle.spe_check.specs.Tries.{Tries}
use Rattle.spe_check.proofs.table_tree.try_bound.Goals as goal

pub returns-clause-tried : goal.returns-clause-tried
returns-clause-tried c = λ count met.
    let P : Bool → Type 0 = λ b. Tries count met met (Keeps c.args.page 6 b ∷ []) c.try_rule.result in
    subst P c.is_within.ensures (c.try_rule.ensures.tried count met)
