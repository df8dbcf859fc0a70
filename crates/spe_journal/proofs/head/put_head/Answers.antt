use Rattle.std.proofs.Common.{◌++◌, List, ℕ, refl, ap, arith, take}
use Rattle.std.proofs.lemmas.List.{length-take}
use Rattle.std.specs.Prelude.{replicate}
use Rattle.byteorder.specs.Endian.{big_bytes}
use Rattle.spe_model.specs.Journal.{head_bytes, journal_magic}
use Rattle.spe_journal.proofs.HeadLemmas.{put_next}
use Rattle.spe_journal.proofs.KindLemmas.{head_bytes-head, head_bytes-size, head_bytes-kind, head_bytes-saves, hot_records-short}
use Rattle.spe_journal.proofs.head.put_head.Goals as goal

pub returns-clause-bytes : goal.returns-clause-bytes
unfolding head_bytes
returns-clause-bytes c =
    let magic = journal_magic in
    let count = magic ++ big_bytes 4 0xffffffff in
    let nonce = count ++ big_bytes 4 c.args.nonce in
    let pages = nonce ++ big_bytes 4 c.args.pages in
    let sector = pages ++ big_bytes 4 512 in
    let start = ap (λ (front : List ℕ). front ++ replicate 504 0) c.copy_from_slice.ensures.after in
    let first = put_next _ c.put_u32.new.out magic (big_bytes 4 0xffffffff) 8 4 504 refl start c.put_u32.ensures in
    let second = put_next _ c.put_u32-2.new.out count (big_bytes 4 c.args.nonce) 12 4 500 refl first c.put_u32-2.ensures in
    let third = put_next _ c.put_u32-3.new.out nonce (big_bytes 4 c.args.pages) 16 4 496 refl second c.put_u32-3.ensures in
    let fourth = put_next _ c.put_u32-4.new.out pages (big_bytes 4 512) 20 4 492 refl third c.put_u32-4.ensures in
    put_next _ c.put_u32-5.new.out sector (big_bytes 4 c.args.page_size) 24 4 488 refl fourth c.put_u32-5.ensures

pub returns-clause-head : goal.returns-clause-head
returns-clause-head c = rw (returns-clause-bytes c) (head_bytes-head c.args.nonce c.args.pages c.args.page_size)

pub returns-clause-size : goal.returns-clause-size
returns-clause-size c = rw (returns-clause-bytes c) (head_bytes-size c.args.nonce c.args.pages c.args.page_size (omega arith))

pub returns-clause-kind : goal.returns-clause-kind
returns-clause-kind c = rw (returns-clause-bytes c) (head_bytes-kind c.args.nonce c.args.pages c.args.page_size (omega arith) (omega arith))

pub returns-clause-saves : goal.returns-clause-saves
returns-clause-saves c = rw (returns-clause-bytes c) (head_bytes-saves c.args.nonce c.args.pages c.args.page_size (omega arith) (omega arith))

pub returns-clause-torn : goal.returns-clause-torn
returns-clause-torn c = λ n cut. hot_records-short c.args.page_size (take n c.put_u32-5.new.out) (omega (arith, length-take n c.put_u32-5.new.out))
