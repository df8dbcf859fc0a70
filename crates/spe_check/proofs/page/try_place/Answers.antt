use Rattle.std.proofs.Common.{◌∙◌, Bool, [], ◌∷◌, subst}
use Rattle.spe_model.specs.Walk.{Keeps}
use Rattle.spe_check.specs.Pages.{is_of_sort, is_placed}
use Rattle.spe_check.specs.Tries.{Tries}
use Rattle.spe_check.proofs.TriesLemmas.{tries_then, tries_halt, the_ok, the_err}
use Rattle.spe_check.proofs.PageLemmas.{placed_is}
use Rattle.spe_check.proofs.page.try_place.Goals as goal

pub returns-in-Err-clause-tried : goal.returns-in-Err-clause-tried
returns-in-Err-clause-tried c = λ count met stand first is here.
    let P : Bool → Type 0 = λ b. Tries count met met (Keeps c.args.page 4 b ∷ []) (the_err (Unit {0}) c.in-Err.halt) in
    tries_halt (Unit {0}) (Unit {0}) count met met met (Keeps c.args.page 4 (is_of_sort c.args.table c.args.kind) ∷ [])
    (Keeps c.args.page 5 (is_placed c.args.levels stand c.args.kind) ∷ []) c.in-Err.halt (subst P c.is_of_sort.ensures (c.in-Err.ensures.tried count met))

pub returns-clause-tried : goal.returns-clause-tried
returns-clause-tried c = λ count met stand first is here.
    let P : Bool → Type 0 = λ b. Tries count met met (Keeps c.args.page 4 b ∷ []) (the_ok (Unit {0}) tt) in
    let Q : Bool → Type 0 = λ b. Tries count met met (Keeps c.args.page 5 b ∷ []) c.try_rule-2.result in
    tries_then {X = Unit {0}} {Y = Unit {0}} count met met met (Keeps c.args.page 4 (is_of_sort c.args.table c.args.kind) ∷ [])
    (Keeps c.args.page 5 (is_placed c.args.levels stand c.args.kind) ∷ []) tt c.try_rule-2.result
    (subst P c.is_of_sort.ensures (c.in-Ok.ensures.tried count met))
    (subst Q (c.stands_well.ensures ∙ placed_is c.args.leaf c.args.levels stand first c.args.kind is here) (c.try_rule-2.ensures.tried count met))
