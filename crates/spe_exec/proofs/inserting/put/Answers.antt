use Rattle.std.proofs.Common.{◌≡◌, ℤ, length, subst, arith, to_z, of_z, w64, to_z-of_z}
use Rattle.spe_modify.specs.Row.{GainsRow, HasRowid}
use Rattle.spe_exec.proofs.InsertLemmas.{put_added, put_fails, put_there}
use Rattle.spe_exec.proofs.inserting.put.Goals as goal

pub returns-in-Ok-true-clause-carries : goal.returns-in-Ok-true-clause-carries
returns-in-Ok-true-clause-carries g c = λ pages t agrees is same values row.
    let new = c.insert_row.new.space in
    let bytes = c.args.bytes.now in
    let one : to_z w64 (of_z w64 c.args.rowid) ≡ c.args.rowid = grind (arith, to_z-of_z) in
    put_added g.S.Pages c.args.space.now new pages t c.args.rowid (to_z w64 (of_z w64 c.args.rowid)) bytes values (length bytes) one row
    (subst (λ (z : ℤ). GainsRow g.S.Pages new pages t z bytes) one (c.in-Ok-true.ensures.put c.in-Ok-true.field-0-test pages t agrees is))
    (c.in-Ok-true.ensures.few pages t agrees is)

pub returns-in-Ok-false-clause-carries : goal.returns-in-Ok-false-clause-carries
returns-in-Ok-false-clause-carries g c = λ pages t agrees is same values row.
    let new = c.insert_row.new.space in
    let bytes = c.args.bytes.now in
    let one : to_z w64 (of_z w64 c.args.rowid) ≡ c.args.rowid = grind (arith, to_z-of_z) in
    put_there g.S.Pages c.args.space.now new pages c.args.entry.now.root t c.args.rowid values (length bytes) is
    (subst (λ (z : ℤ). HasRowid g.S.Pages new pages t z) one (c.in-Ok-false.ensures.there c.in-Ok-false.field-0-test pages t agrees is))
    (c.in-Ok-false.ensures.few pages t agrees is)

pub returns-in-Err-clause-carries : goal.returns-in-Err-clause-carries
returns-in-Err-clause-carries g c = λ pages t agrees is same values row.
    put_fails g.S.Pages c.args.space.now c.insert_row.new.space pages t (length c.args.bytes.now) _ c.in-Err.fault
    (c.in-Err.ensures.few pages t agrees is) (c.in-Err.ensures.likely pages t agrees is)
