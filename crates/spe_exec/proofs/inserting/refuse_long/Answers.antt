use Rattle.std.proofs.Common.{◌≡◌, ℤ, ◌∙◌, subst, arith, to_z, of_z, w64, to_z-of_z, ap, Ok, Err}
use Rattle.spe_model.specs.Tree.{rank}
use Rattle.spe_search.specs.Found.{FindsPayload}
use Rattle.spe_search.specs.Range.{AddsOfRange}
use Rattle.spe_exec.specs.Inserts.{long_refusal}
use Rattle.spe_exec.proofs.OpenLemmas.{find_fails, long_found}
use Rattle.spe_exec.proofs.inserting.refuse_long.Goals as goal

pub returns-in-Ok-clause-carries : goal.returns-in-Ok-clause-carries
returns-in-Ok-clause-carries g c = λ pages t agrees is same size.
    let one : to_z w64 (of_z w64 c.args.rowid) ≡ c.args.rowid = grind (arith, to_z-of_z) in
    long_found g.S.Pages c.args.space.now c.find.new.space pages c.args.entry.now.root t size c.args.rowid c.in-Ok.found c.long_refusal.result c.table_law.ensures.table
    c.shifts_law.ensures.reads c.shifts_law.ensures.spares_more is agrees c.find.ensures.kept
    (subst (λ (z : ℤ). AddsOfRange g.S.Pages c.args.space.now c.find.new.space c.args.entry.now.root (rank z) (rank z)) one c.find.ensures.adds) (subst (λ (z : ℤ). FindsPayload g.S.Pages c.args.space.now c.find.new.space c.args.entry.now.root z (Ok c.in-Ok.found)) one c.in-Ok.ensures.found) (c.long_refusal.ensures ∙ ap long_refusal c.is_some.ensures)

pub returns-in-Err-clause-carries : goal.returns-in-Err-clause-carries
returns-in-Err-clause-carries g c = λ pages t agrees is same size.
    let one : to_z w64 (of_z w64 c.args.rowid) ≡ c.args.rowid = grind (arith, to_z-of_z) in
    find_fails g.S.Pages c.args.space.now c.find.new.space pages c.args.entry.now.root t size _ c.args.rowid c.in-Err.fault c.table_law.ensures.table
    c.shifts_law.ensures.reads c.shifts_law.ensures.spares_more is agrees c.find.ensures.kept
    (subst (λ (z : ℤ). AddsOfRange g.S.Pages c.args.space.now c.find.new.space c.args.entry.now.root (rank z) (rank z)) one c.find.ensures.adds) (subst (λ (z : ℤ). FindsPayload g.S.Pages c.args.space.now c.find.new.space c.args.entry.now.root z (Err c.in-Err.fault)) one c.in-Err.ensures.found) c.in-Err.ensures.inside
