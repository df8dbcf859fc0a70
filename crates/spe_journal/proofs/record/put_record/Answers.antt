use Rattle.std.proofs.Common.{◌≡◌, ◌+◌, ◌-◌, List, ℕ, length, refl, arith, ap, ◌∙◌, ◌++◌}
use Rattle.byteorder.specs.Endian.{big_bytes}
use Rattle.spe_model.specs.Journal.{record_bytes}
use Rattle.spe_journal.proofs.RecordLemmas.{three_parts, record-is_right, record-saved_of, record-first, record-torn}
use Rattle.spe_journal.proofs.record.put_record.Goals as goal
use borrow.Rule.Slice.PartMut.{put_mid}

pub returns-clause-bytes : goal.returns-clause-bytes
unfolding record_bytes
returns-clause-bytes c =
    let content = c.args.content.now in
    let end = length content + 4 in
    let filled : put_mid 4 (end - 4) c.put_u32.new.out c.copy_from_slice.new.self ≡ put_mid 4 (end - 4) c.put_u32.new.out content =
    ap (λ (part : List ℕ). put_mid 4 (end - 4) c.put_u32.new.out part) c.copy_from_slice.ensures.after in
    c.put_u32-2.ensures
    ∙ three_parts c.args.out.now (big_bytes 4 c.args.page) content (big_bytes 4 c.checksum.result) c.put_u32.new.out
    (put_mid 4 (end - 4) c.put_u32.new.out c.copy_from_slice.new.self) end refl c.requires refl c.put_u32.ensures filled
    ∙ ap (λ (sum : ℕ). big_bytes 4 c.args.page ++ content ++ big_bytes 4 sum) c.checksum.ensures

pub returns-clause-right : goal.returns-clause-right
returns-clause-right c = λ named. rw (returns-clause-bytes c) (record-is_right c.args.nonce c.args.page c.args.content.now (omega arith) named)

pub returns-clause-saved : goal.returns-clause-saved
returns-clause-saved c = rw (returns-clause-bytes c) (record-saved_of c.args.nonce c.args.page c.args.content.now (omega arith))

pub returns-clause-first : goal.returns-clause-first
returns-clause-first c = λ named rest. rw (returns-clause-bytes c) (record-first c.args.nonce c.args.page c.args.content.now rest (omega arith) named)

pub returns-clause-torn : goal.returns-clause-torn
returns-clause-torn c = rw (returns-clause-bytes c) (record-torn c.args.nonce c.args.page c.args.content.now)
