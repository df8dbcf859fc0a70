use Rattle.std.proofs.Common.{◌≡◌, arith, to_z, of_z, w64, to_z-of_z}
use Rattle.spe_exec.proofs.OpenLemmas.{no_record, put_record}
use Rattle.spe_exec.proofs.inserting.insert_at.Goals as goal

pub returns-in-Ok-Some-clause-carries : goal.returns-in-Ok-Some-clause-carries
returns-in-Ok-Some-clause-carries g c = λ pages t agrees is same.
    let one : to_z w64 (of_z w64 c.args.rowid) ≡ c.args.rowid = grind (arith, to_z-of_z) in
    put_record g.S.Pages c.args.space.now c.put.new.space pages t c.args.entry.now c.args.statement.now c.args.rowid (to_z w64 (of_z w64 c.args.rowid)) c.in-Ok-Some.record c.as_slice.result.now c.put.result
    same one c.as_slice.ensures (rw c.in-Ok-Some.field-0-is at c.in-Ok-Some.ensures) (λ values row. c.put.ensures.carries pages t agrees is same values row)

pub returns-in-Ok-None-clause-carries : goal.returns-in-Ok-None-clause-carries
returns-in-Ok-None-clause-carries g c = λ pages t agrees is same.
    let one : to_z w64 (of_z w64 c.args.rowid) ≡ c.args.rowid = grind (arith, to_z-of_z) in
    no_record g.S.Pages c.args.space.now c.refuse_long.new.space pages t c.args.entry.now c.args.statement.now c.args.rowid (to_z w64 (of_z w64 c.args.rowid)) c.refuse_long.result
    same one (rw c.in-Ok-None.field-0-is at c.in-Ok-None.ensures) (c.refuse_long.ensures.carries pages t agrees is same _)
