use Rattle.std.proofs.Common.{◌∙◌, sym, not, ◌&&◌, rules, tests, ℕ}
use Rattle.std.specs.Option.{option_map_or}
use Rattle.std.proofs.lemmas.Iterator.{YieldsList-from_slice}
use Rattle.std.proofs.lemmas.Iterator.Consumers.{YieldsList-from_enumerate}
use Rattle.std.proofs.lemmas.Iterator.Search.{any_from_yields_List}
use Rattle.spe_model.specs.declared.table.Column.{Column}
use Rattle.spe_model.specs.declared.naming.Named.TheVariants as named
use Rattle.spe_model.specs.Alias.{is_alias}
use Rattle.spe_model.specs.Statement.{is_insert}
use Rattle.spe_model.specs.Assigned.{assignments, given_to}
use Rattle.spe_model.specs.Refusals.{is_null, has_null}
use Rattle.spe_slow.proofs.RefusedLemmas.{any_in_step}
use Rattle.spe_slow.proofs.refused.has_null.Goals as goal

pub returns : goal.returns
unfolding has_null
returns c =
    let table = c.args.table.now in
    let s = c.args.statement.now in
    any_from_yields_List (λ (x : ℕ × Column). x.1.not_null && not (is_alias table.alias x.0) && option_map_or is_null (given_to (named.Column x.0) (assignments table s)) (is_insert s)) _ _ _ c.any.ensures.ran
    (YieldsList-from_enumerate (YieldsList-from_slice table.columns (cc)) (cc)) (λ x b q k. search (rules, tests))
    ∙ sym (any_in_step (λ (x : ℕ × Column). x.1.not_null && not (is_alias table.alias x.0)) (λ place. given_to (named.Column place) (assignments table s)) (λ given. option_map_or is_null given (is_insert s)) 0 table.columns)
