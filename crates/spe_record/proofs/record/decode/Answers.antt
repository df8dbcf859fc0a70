use Rattle.std.proofs.Common.{◌∙◌, subst, sym}
use Rattle.spe_record.specs.Answers.{GivesRecord}
use Rattle.spe_record.proofs.CountedLemmas.{record_is, types_is}
use Rattle.spe_record.proofs.record.decode.Goals as goal

pub returns : goal.returns
returns c =
    let types = types_is c.args.bytes.now c.split_at.result.0.now c.in-Some.header c.in-Some.first c.split_at.ensures.front c.if-header-first.false in
    subst (GivesRecord c.values_of_types.result)
    (sym (record_is c.args.bytes.now _ c.split_at.result.1.now c.in-Some.header c.in-Some.first (sym c.read_varint.ensures.value ∙ c.in-Some.is) c.if-header-first.false c.if-header-bytes.false types c.split_at.ensures.back))
    c.values_of_types.ensures
