use Rattle.std.proofs.Common.{◌+◌, ◌-◌, ◌∙◌, sym, refl, rules, tests}
use Rattle.std.proofs.lemmas.Iterator.{YieldsList-from_range}
use Rattle.std.proofs.lemmas.Iterator.Search.{any_from_yields_List}
use Rattle.spe_model.specs.Naming.{is_same}
use Rattle.spe_model.specs.Assigned.{targets}
use Rattle.spe_slow.proofs.RefusedLemmas.{passes_at, again_at}
use Rattle.spe_slow.proofs.refused.comes_again.Goals as goal

pub returns-in-Some : goal.returns-in-Some
returns-in-Some c =
    let all = targets c.args.table.now c.args.statement.now in
    any_from_yields_List (λ j. passes_at (λ t. is_same t c.in-Some.target) all j) _ _ _ c.any.ensures.ran (YieldsList-from_range (c.args.i + 1) c.args.count (c.args.count - (c.args.i + 1)) refl refl) (λ x b q k. search (rules, tests))
    ∙ again_at all c.args.i c.args.count c.in-Some.target c.requires.within c.requires.count (sym c.target_at.ensures ∙ c.in-Some.is)
