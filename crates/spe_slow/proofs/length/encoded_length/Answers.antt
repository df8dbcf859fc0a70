use Rattle.std.proofs.Common.{arith, true, false}
use Rattle.spe_model.specs.Length.{type_length, body_length}
use Rattle.spe_slow.proofs.LengthLemmas.{add_field, whole_sum, record_cut, type_length-Null, body_length-Null}
use Rattle.spe_slow.proofs.length.encoded_length.Goals as goal
use Rattle.spe_slow.proofs.length.encoded_length.Goals.{then-is_alias, else-is_alias}

pub loop-place-preserved : goal.loop-place-preserved
loop-place-preserved c =
    let within = rw c.as_slice-value-items.ensures at c.loop-place-test.true in
    elim c.if-is_alias.branch [
      | then-is_alias w ↦ record {
        types = add_field type_length c.args.alias c.args.values.now c.loop-place.place c.value-item.result true c.loop-place.types 1 c.if-is_alias.types _ _ within (cc) (cc) type_length-Null (cc) c.loop-place.invariant.types;
        bodies = add_field body_length c.args.alias c.args.values.now c.loop-place.place c.value-item.result true c.loop-place.bodies 0 c.if-is_alias.bodies _ _ within (cc) (cc) body_length-Null (omega arith) c.loop-place.invariant.bodies;
        types_fit = omega arith;
        bodies_fit = omega arith;
      }
      | else-is_alias w ↦ record {
        types = add_field type_length c.args.alias c.args.values.now c.loop-place.place c.value-item.result false c.loop-place.types w.type_length.result c.if-is_alias.types _ _ within (cc) (cc) (cc) (cc) c.loop-place.invariant.types;
        bodies = add_field body_length c.args.alias c.args.values.now c.loop-place.place c.value-item.result false c.loop-place.bodies w.body_length.result c.if-is_alias.bodies _ _ within (cc) (cc) (cc) (cc) c.loop-place.invariant.bodies;
        types_fit = omega arith;
        bodies_fit = omega arith;
      }
    ]

pub returns : goal.returns
returns c =
    let past = rw c.as_slice-value-items.ensures at c.loop-place-test.false in
    record_cut c.args.alias c.args.values.now c.loop-place.types c.loop-place.bodies c.header_length.result c.saturating_add.result _
    (whole_sum type_length c.args.alias c.args.values.now c.loop-place.place c.loop-place.types _ _ past c.loop-place.invariant.types_fit c.loop-place.invariant.types)
    (whole_sum body_length c.args.alias c.args.values.now c.loop-place.place c.loop-place.bodies _ _ past c.loop-place.invariant.bodies_fit c.loop-place.invariant.bodies)
    c.header_length.ensures c.saturating_add.ensures
