use Rattle.std.proofs.Common.{arith, List, subst}
use Rattle.spe_model.specs.declared.value.Value.{Value}
use Rattle.spe_record.proofs.RecordLemmas.{IsRecord, record_made}
use Rattle.spe_record.proofs.written.encode.Goals as goal

made : (c : goal.After-new) → IsRecord c.args.alias c.args.values.now c.new.result
made c =
    subst (λ (vs : List Value). IsRecord c.args.alias vs c.new.result) c.as_slice-list.ensures
    (record_made c.args.alias c.as_slice-list.result.now c.in_ok-out.out.items c.push_number.new.out.items c.push_types.new.out.items c.push_fields.new.out.items c.new.result
    c.types_length-types.result c.header_length.result c.types_length-types.ensures (omega (arith, c.if-types-gt-MOST.false)) c.header_length.ensures c.in_ok-out.ensures.items
    c.in_ok-push_number.ensures.bytes c.in_ok-push_types.ensures.bytes c.in_ok-push_fields.ensures.bytes c.new.ensures c.in_ok-push_number.ensures.spelled
    c.in_ok-push_types.ensures.spelled c.in_ok-push_fields.ensures.sound)

pub returns-clause-bytes : goal.returns-clause-bytes
returns-clause-bytes c = (made c).0

pub returns-clause-len : goal.returns-clause-len
returns-clause-len c = (made c).1

pub returns-clause-reads_back : goal.returns-clause-reads_back
returns-clause-reads_back c = (made c).2
