use Rattle.std.proofs.Common.{◌∙◌, ◌<◌, ◌≤◌, arith, length, sym}
use Rattle.spe_record.proofs.CountedLemmas.{judged_record, types_is}
use Rattle.spe_record.proofs.counted.value_count.Goals as goal

pub returns : goal.returns
returns c =
    let types = types_is c.args.bytes.now c.split_at.result.0.now c.in-Some.header c.in-Some.first c.split_at.ensures.front c.if-header-first.false in
    let read : (0 < c.in-Some.first) × (c.in-Some.first ≤ length c.args.bytes.now) = c.in-Some.ensures.within in
    let few : length c.split_at.result.1.now < 18446744073709551615 = omega arith in
    c.judged.ensures
    ∙ judged_record c.args.bytes.now _ c.split_at.result.1.now c.in-Some.header c.in-Some.first c.in-Some-seen_of.seen (sym c.read_varint.ensures.value ∙ c.in-Some.is)
    c.if-header-first.false c.if-header-bytes.false types c.split_at.ensures.back few (sym c.in-Some-seen_of.is ∙ c.seen_of.ensures)
