use Rattle.std.proofs.Common.{sym, ap, ◌∙◌, false}
use Rattle.std.specs.Option.{option_map_or}
use Rattle.spe_model.specs.Assigned.{targets, given_values}
use Rattle.spe_model.specs.Refusals.{is_misfit}
use Rattle.spe_slow.proofs.RefusedLemmas.{zip_some, zip_none_left, zip_none_right}
use Rattle.spe_slow.proofs.refused.is_misfit_at.Goals as goal

pub returns-in_default : goal.returns-in_default
returns-in_default c =
    let table = c.args.table.now in
    let s = c.args.statement.now in
    sym (ap (λ o. option_map_or (is_misfit table) o false) (zip_none_left (targets table s) (given_values s) c.args.i (cc)))

pub returns-in-Some-value_at : goal.returns-in-Some-value_at
returns-in-Some-value_at c =
    let table = c.args.table.now in
    let s = c.args.statement.now in
    c.is_misfit.ensures
    ∙ sym (ap (λ o. option_map_or (is_misfit table) o false) (zip_some (targets table s) (given_values s) c.args.i c.in-Some.target c.in-Some-value_at.value.now (cc) (sym c.in-Some-value_at.ensures)))

pub returns-in-None : goal.returns-in-None
returns-in-None c =
    let table = c.args.table.now in
    let s = c.args.statement.now in
    sym (ap (λ o. option_map_or (is_misfit table) o false) (zip_none_right (targets table s) (given_values s) c.args.i (sym c.in-None.ensures)))
