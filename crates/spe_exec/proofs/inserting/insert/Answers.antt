use Rattle.std.proofs.Common.{◌≡◌, ℤ, ◌∙◌, arith, to_z, of_z, w64, to_z-of_z, sym, ap, Some}
use Rattle.spe_model.specs.declared.catalog.Entry.{Entry}
use Rattle.spe_model.specs.Assigned.{assignments, given_rowid}
use Rattle.spe_exec.proofs.InsertLemmas.{carries_given, carries_next}
use Rattle.spe_exec.proofs.inserting.insert.Goals as goal

pub returns-in-Some-clause-carries : goal.returns-in-Some-clause-carries
returns-in-Some-clause-carries g c = λ pages t agrees is same.
    let z = to_z w64 (of_z w64 c.in-Some.rowid) in
    let one : z ≡ c.in-Some.rowid = grind (arith, to_z-of_z) in
    let q = c.args.statement.now in
    carries_given g.S.Pages c.args.space.now c.insert_at.new.space pages t q z c.insert_at.result c.requires.insert
    (ap (λ (k : ℤ). Some k) one ∙ sym c.in-Some.is ∙ c.given_rowid.ensures ∙ ap (λ (e : Entry). given_rowid (assignments e.table q)) (sym same))
    (c.insert_at.ensures.carries pages t agrees is same)

pub returns-in-None-clause-carries : goal.returns-in-None-clause-carries
returns-in-None-clause-carries g c = λ pages t agrees is same.
    let q = c.args.statement.now in
    carries_next g.S.Pages c.args.space.now c.insert_next.new.space pages t q c.insert_next.result c.requires.insert
    (sym c.in-None.is ∙ c.given_rowid.ensures ∙ ap (λ (e : Entry). given_rowid (assignments e.table q)) (sym same))
    (c.insert_next.ensures.carries pages t agrees is same)
