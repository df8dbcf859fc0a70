use Rattle.std.proofs.Common.{Bool, [], ◌∷◌, subst}
use Rattle.spe_model.specs.Walk.{Keeps}
use Rattle.spe_check.specs.Tries.{Tries}
use Rattle.spe_check.proofs.TriesLemmas.{the_err}
use Rattle.spe_check.proofs.record_rows.RecordRowsRowVisitor.visit.Goals as goal

pub returns-in-Err-clause-tried : goal.returns-in-Err-clause-tried
returns-in-Err-clause-tried c = λ count met later above.
    let P : Bool → Type 0 = λ b. Tries count met met (Keeps c.args.leaf 8 b ∷ []) (the_err (Unit {0}) c.in-Err.halt) in
    subst P c.is_record_of.ensures (c.in-Err.ensures.tried count met)
