use Rattle.std.proofs.Common.{◌≡◌, ◌∙◌, arith, to_z, of_z, w64, to_z-of_z, sym}
use Rattle.spe_exec.proofs.OpenLemmas.{record_new}
use Rattle.spe_exec.proofs.inserting.new_record.Goals as goal

pub returns : goal.returns
returns c =
    let one : to_z w64 (of_z w64 c.args.rowid) ≡ c.args.rowid = grind (arith, to_z-of_z) in
    record_new c.args.table.now c.args.statement.now c.args.rowid (to_z w64 (of_z w64 c.args.rowid)) c.in_ok-values.values c.in_ok-encode.field-0 one c.in_ok-values.ensures
    (sym c.is_too_long.ensures ∙ c.if-is_too_long.false) c.in_ok-encode.ensures.len c.in_ok-encode.ensures.reads_back
