use Rattle.std.proofs.Common.{◌∙◌, refl, rules, tests, arith}
use Rattle.std.proofs.lemmas.Iterator.{YieldsList-from_range}
use Rattle.std.proofs.lemmas.Iterator.Search.{any_from_yields_List}
use Rattle.spe_model.specs.declared.naming.Named.TheVariants as named
use Rattle.spe_model.specs.declared.value.Value.TheVariants.{Null}
use Rattle.spe_model.specs.Assigned.{targets, given_values, assignments}
use Rattle.spe_model.specs.Refusals.{is_misfit, has_misfit}
use Rattle.spe_slow.proofs.RefusedLemmas.{passes_at, any_by_number, zip_short}
use Rattle.spe_slow.proofs.refused.has_misfit.Goals as goal

pub returns : goal.returns
unfolding has_misfit
returns c =
    let table = c.args.table.now in
    let s = c.args.statement.now in
    any_from_yields_List (λ j. passes_at (is_misfit table) (assignments table s) j) _ _ _ c.any.ensures.ran (YieldsList-from_range 0 c.value_count.result c.value_count.result refl (omega arith)) (λ x b q k. search (rules, tests))
    ∙ any_by_number (named.Nothing, Null) (is_misfit table) (assignments table s) c.value_count.result (rw c.value_count.ensures (zip_short (targets table s) (given_values s)))
