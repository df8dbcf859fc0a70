use Rattle.std.proofs.Common.{◌∙◌, Bool, List, [], ◌∷◌, ap, sym, subst}
use Rattle.spe_model.specs.declared.value.Value.{Value}
use Rattle.spe_model.specs.Verdict.{fits}
use Rattle.spe_model.specs.Walk.{Keeps}
use Rattle.spe_check.specs.Tries.{Tries}
use Rattle.spe_check.proofs.TriesLemmas.{halts_same, the_err}
use Rattle.spe_check.proofs.record_rows.try_record.Goals as goal

pub returns-in-Err-try_rule-clause-tried : goal.returns-in-Err-try_rule-clause-tried
returns-in-Err-try_rule-clause-tried c = λ count met.
    let P : Bool → Type 0 = λ b. Tries count met met (Keeps c.args.leaf 8 b ∷ []) (the_err (List Value) c.in-Err-try_rule.halt) in
    subst P (c.has_at_most.ensures ∙ sym (ap (fits c.args.columns) c.in-Ok.ensures))
    (halts_same (Unit {0}) (List Value) count met met (Keeps c.args.leaf 8 c.has_at_most.result ∷ []) c.in-Err-try_rule.halt (c.in-Err-try_rule.ensures.tried count met))
