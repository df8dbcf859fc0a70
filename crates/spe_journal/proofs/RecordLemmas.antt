-- A record as it is written, and read again.
use Rattle.std.proofs.Common.{◌≡◌, ◌≢◌, ℕ, ◌+◌, ◌-◌, ◌<◌, ◌^◌, List, [], ◌∷◌, ◌++◌, length, take, drop, refl, arith, ap, ◌∙◌, append_assoc, true, length-append}
use Rattle.std.proofs.lemmas.List.{append-nil, drop_all, take_at, length-drop, length-take-le}
use Rattle.std.proofs.lemmas.Slice.{take-put_mid, drop-put_mid}
use Rattle.std.proofs.lemmas.Bool.Decides.{nat_tests}
use Rattle.byteorder.specs.Endian.{big_bytes}
use Rattle.spe_model.specs.Big.{u32_at}
use Rattle.spe_model.specs.Journal.{Saved, checksum_of, record_bytes, saved_of, is_right}
use Rattle.spe_journal.proofs.BytesLemmas.{u32_at-written}
use Rattle.spe_journal.specs.Saved.{saved_in}
use Rattle.spe_journal.proofs.PiecesLemmas.{saved_in-right, saved_in-torn}
use borrow.Rule.Slice.PartMut.{put_mid}

-- three parts that are written one after the other
pub three_parts : (out front content last first second : List ℕ) (end : ℕ)
    → length front ≡ 4 → length out ≡ length content + 8 → end ≡ length content + 4
    → first ≡ take 0 out ++ front ++ drop 4 out
    → second ≡ put_mid 4 (end - 4) first content
    → take end second ++ last ++ drop (end + 4) second ≡ front ++ content ++ last
three_parts out front content last first second end four whole at written filled =
    let first_is : first ≡ front ++ drop 4 out = written in
    let long : length first ≡ length out = rw first_is (omega (arith, length-append front (drop 4 out), length-drop 4 out)) in
    let head : take end second ≡ front ++ content =
    rw (filled, take-put_mid 4 (end - 4) first content end (omega arith) (omega arith), first_is, take_at front (drop 4 out) 4 four) refl in
    let tail : drop (end + 4) second ≡ [] =
    rw (filled, drop-put_mid 4 (end - 4) first content (end + 4) (omega arith) (omega arith) (omega arith)) (drop_all (end + 4) first (omega arith)) in
    rw (head, tail) (append-nil (front ++ content ++ last))

-- what a record says that was written, whatever comes after it
pub record-page : (nonce page : ℕ) (content : List ℕ) → page < 2 ^ 32 → u32_at (record_bytes nonce page content) 0 ≡ page
unfolding record_bytes
record-page nonce page content fits =
    rw (append_assoc (big_bytes 4 page) content (big_bytes 4 (checksum_of nonce content)))
    (u32_at-written [] (content ++ big_bytes 4 (checksum_of nonce content)) 0 page refl fits)

pub record-content : (nonce page : ℕ) (content : List ℕ) → take (length content) (drop 4 (record_bytes nonce page content)) ≡ content
unfolding record_bytes
record-content nonce page content = take_at content (big_bytes 4 (checksum_of nonce content)) (length content) refl

checksum_of-lt : (nonce : ℕ) (content : List ℕ) → checksum_of nonce content < 2 ^ 32
unfolding checksum_of
checksum_of-lt nonce content = omega arith

record-checksum : (nonce page : ℕ) (content : List ℕ) → u32_at (record_bytes nonce page content) (length content + 4) ≡ checksum_of nonce content
unfolding record_bytes
record-checksum nonce page content =
    rw (← append-nil (big_bytes 4 page ++ content ++ big_bytes 4 (checksum_of nonce content)))
    (u32_at-written (big_bytes 4 page ++ content) [] (length content + 4) (checksum_of nonce content) (omega (arith, length-append (big_bytes 4 page) content)) (checksum_of-lt nonce content))

pub record-is_right : (nonce page : ℕ) (content : List ℕ) → page < 2 ^ 32 → page ≢ 0
    → is_right nonce (length content) (record_bytes nonce page content) ≡ true
record-is_right nonce page content fits named =
    rw (record-page nonce page content fits, record-content nonce page content, record-checksum nonce page content) (grind (arith, nat_tests))

pub record-saved_of : (nonce page : ℕ) (content : List ℕ) → page < 2 ^ 32
    → saved_of (length content) (record_bytes nonce page content) ≡ record { page = page; content = content }
record-saved_of nonce page content fits = rw (record-page nonce page content fits, record-content nonce page content) refl

pub record-length : (nonce page : ℕ) (content : List ℕ) → length (record_bytes nonce page content) ≡ length content + 8
unfolding record_bytes
record-length nonce page content =
    omega (arith, length-append (big_bytes 4 page ++ content) (big_bytes 4 (checksum_of nonce content)), length-append (big_bytes 4 page) content)

pub record-first : (nonce page : ℕ) (content rest : List ℕ) → page < 2 ^ 32 → page ≢ 0
    → saved_in nonce (length content) (record_bytes nonce page content ++ rest) ≡ record { page = page; content = content } ∷ saved_in nonce (length content) rest
record-first nonce page content rest fits named =
    saved_in-right nonce (length content) (record_bytes nonce page content) rest (record-length nonce page content) (record-is_right nonce page content fits named)
    ∙ ap (λ (s : Saved). s ∷ saved_in nonce (length content) rest) (record-saved_of nonce page content fits)

pub record-torn : (nonce page : ℕ) (content : List ℕ) (n : ℕ) → n < length (record_bytes nonce page content)
    → saved_in nonce (length content) (take n (record_bytes nonce page content)) ≡ []
record-torn nonce page content n cut =
    saved_in-torn nonce (length content) (take n (record_bytes nonce page content))
    (omega (arith, record-length nonce page content, length-take-le n (record_bytes nonce page content) (omega arith)))
