use Rattle.std.proofs.Common.{◌≡◌, ℤ, ap, arith, length, of_z, to_z, to_z-of_z, w64}
use Rattle.spe_model.specs.Standing.{shown}
use Rattle.spe_render.specs.Values.{barred}
use Rattle.spe_render.proofs.PassesLemmas.{printed}
use Rattle.spe_render.proofs.StoredLemmas.{few_after, stored_begins, stored_end, stored_turn}
use Rattle.spe_render.proofs.stored.put_fields.Goals as goal

pub loop-place-init : goal.loop-place-init
loop-place-init g c =
    let all : length c.as_slice-count.result.now ≡ length c.args.table.now.columns = ap length c.as_slice-count.ensures in
    let few = c.requires in record {
      few = omega (arith, all, few);
      front = stored_begins c.args.table.now (to_z w64 (of_z w64 c.args.rowid)) c.args.fields (length c.as_slice-count.result.now) all;
    }

pub loop-place-preserved : goal.loop-place-preserved
loop-place-preserved g c = record {
  few = few_after (length c.as_slice-count.result.now) c.loop-place.place c.loop-place.left c.next_field-field.new.self c.next_field-field.result c.next_field-field.ensures c.loop-place.invariant.few (omega (arith, c.loop-place-test.true));
  front = stored_turn c.args.table.now.alias (to_z w64 (of_z w64 c.args.rowid)) (length c.as_slice-count.result.now) c.loop-place.place c.loop-place.left c.next_field-field.new.self c.next_field-field.result c.shown_at.result
      c.loop-place.invariant.front c.next_field-field.ensures (omega (arith, c.loop-place-test.true)) c.shown_at.ensures c.put_barred_field.ensures;
}

pub returns : goal.returns
returns g c =
    let same : to_z w64 (of_z w64 c.args.rowid) ≡ c.args.rowid = grind (arith, to_z-of_z) in
    printed (ap (λ (n : ℤ). barred (shown c.args.table.now n c.args.fields)) same)
    (stored_end c.args.table.now.alias (to_z w64 (of_z w64 c.args.rowid)) (length c.as_slice-count.result.now) c.loop-place.place c.loop-place.left c.loop-place.invariant.front c.loop-place.invariant.few (omega (arith, c.loop-place-test.false)))
