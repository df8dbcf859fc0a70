use Rattle.std.proofs.Common.{arith}
use Rattle.spe_record.specs.Written.{type_bytes}
use Rattle.spe_record.proofs.FieldsLemmas.{rest_length, bytes_step, bytes_end, spelled_step, spelled_end}
use Rattle.spe_record.proofs.written.push_types.Goals as goal

pub loop-left-preserved : goal.loop-left-preserved
loop-left-preserved c =
    let left = c.loop-left.left.now in
    let rest = rest_length c.value-item.result c.loop-left.place left c.in-len1-up.len_at_least in
    record {
      places = omega (arith, rest, c.loop-left.invariant.places);
      bytes =
          bytes_step type_bytes c.args.alias c.loop-left.place _ _ _ c.value-item.result left c.in-len1-up.len_at_least c.value-item.is c.in_ok-push_type.ensures.bytes
          c.loop-left.invariant.bytes;
      spelled = spelled_step _ c.args.alias c.loop-left.place c.value-item.result left c.in-len1-up.len_at_least c.value-item.is c.in_ok-push_type.ensures.spelled c.loop-left.invariant.spelled;
    }

pub returns-clause-bytes : goal.returns-clause-bytes
returns-clause-bytes c =
    bytes_end type_bytes c.args.alias c.loop-left.place _ _ c.loop-left.left.now (omega (arith, c.in_default.len_below)) c.loop-left.invariant.bytes

pub returns-clause-spelled : goal.returns-clause-spelled
returns-clause-spelled c = spelled_end _ c.args.alias c.loop-left.place c.loop-left.left.now (omega (arith, c.in_default.len_below)) c.loop-left.invariant.spelled
