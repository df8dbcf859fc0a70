use Rattle.std.proofs.Common.{◌≡◌, ℤ, ◌∙◌, arith, to_z, of_z, w64, to_z-of_z, sym, ap, Ok}
use Rattle.spe_exec.proofs.OpenLemmas.{last_fails, next_found, next_none}
use Rattle.spe_exec.proofs.inserting.insert_next.Goals as goal

pub returns-in-Err-clause-carries : goal.returns-in-Err-clause-carries
returns-in-Err-clause-carries g c = λ pages t agrees is same.
    last_fails g.S.Pages c.args.space.now c.largest.new.space pages c.args.entry.now.root t _ _ c.in-Err.fault c.table_law.ensures.table c.shifts_law.ensures.reads c.shifts_law.ensures.spares_more
    is agrees c.largest.ensures.kept c.largest.ensures.adds c.in-Err.ensures.found c.in-Err.ensures.inside

pub returns-in-Ok-rowid_after-clause-carries : goal.returns-in-Ok-rowid_after-clause-carries
returns-in-Ok-rowid_after-clause-carries g c = λ pages t agrees is same.
    let z = to_z w64 (of_z w64 c.in-Ok-rowid_after.rowid) in
    let one : z ≡ c.in-Ok-rowid_after.rowid = grind (arith, to_z-of_z) in
    let mid = c.largest.new.space in
    next_found g.S.Pages c.args.space.now mid c.insert_new.new.space pages c.args.entry.now.root t c.args.statement.now c.in-Ok.last z c.insert_new.result c.table_law.ensures.table c.shifts_law.ensures.reads
    c.shifts_law.ensures.both c.shifts_law.ensures.spares is (c.insert_new.ensures.kept.earlier pages agrees) c.largest.ensures.kept c.largest.ensures.adds c.in-Ok.ensures.found
    (sym c.rowid_after.ensures ∙ c.in-Ok-rowid_after.is ∙ ap (λ (k : ℤ). Ok k) (sym one)) (λ there free. c.insert_new.ensures.carries pages t agrees there same free)

pub returns-in-Err-rowid_after-clause-carries : goal.returns-in-Err-rowid_after-clause-carries
returns-in-Err-rowid_after-clause-carries g c = λ pages t agrees is same.
    next_none g.S.Pages c.args.space.now c.largest.new.space pages c.args.entry.now.root t c.args.statement.now c.in-Ok.last c.in-Err-rowid_after.refusal c.table_law.ensures.table c.shifts_law.ensures.reads
    c.shifts_law.ensures.spares_more is agrees c.largest.ensures.kept c.largest.ensures.adds c.in-Ok.ensures.found (sym c.rowid_after.ensures ∙ c.in-Err-rowid_after.is)
