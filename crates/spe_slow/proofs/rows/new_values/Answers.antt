use Rattle.std.proofs.Common.{◌≡◌, length, map, sym, ◌∙◌, ap, arith, to_z, of_z, w64, to_z-of_z}
use Rattle.std.specs.Prelude.{ℤ}
use Rattle.std.specs.List.{range_with_len}
use Rattle.spe_slow.proofs.RowsLemmas.{new_value, new_values_by_place}
use Rattle.spe_slow.proofs.PushLemmas.{push_number, push_end}
use Rattle.spe_slow.proofs.rows.new_values.Goals as goal

pub loop-place-preserved : goal.loop-place-preserved
loop-place-preserved c =
    let within = rw c.as_slice-place-end.ensures at c.loop-place-test.true in
    rw c.in_ok-push.ensures.items
    (push_number _ c.loop-place.found.items c.in_ok-new_value.field-0 c.loop-place.place (length c.args.table.now.columns) _ within c.in_ok-new_value.ensures c.loop-place.invariant)

pub returns : goal.returns
returns c =
    let past = rw c.as_slice-place-end.ensures at c.loop-place-test.false in
    let same : to_z w64 (of_z w64 c.args.rowid) ≡ c.args.rowid = grind (arith, to_z-of_z) in
    c.new.ensures ∙ push_end _ c.loop-place.found.items c.loop-place.place (length c.args.table.now.columns) _ past c.loop-place.invariant
    ∙ ap (λ (rowid : ℤ). map (new_value c.args.table.now c.args.statement.now rowid) (range_with_len 0 (length c.args.table.now.columns))) same
    ∙ sym (new_values_by_place c.args.table.now c.args.statement.now c.args.rowid)
