-- The first 24 bytes of a file say its page size, and whether it can be read.
use Rattle.std.proofs.Common.{◌≡◌, ℕ, ◌+◌, ◌*◌, ◌<◌, ◌≤◌, List, [], ◌∷◌, length, take, get_or, refl, arith, sym, ap, ◌∙◌, Bool, true, false, Some, None, get_or-take, get_or-drop, length-take}
use Rattle.std.specs.Prelude.{nat_lt, min, if◌then◌else◌}
use Rattle.std.specs.List.{find}
use Rattle.std.proofs.lemmas.Bool.{not-false}
use Rattle.std.proofs.lemmas.Bool.Decides.{nat_tests}
use Rattle.std.proofs.lemmas.List.{take-take}
use Rattle.spe_model.specs.declared.file.FileNo.TheVariants.{Database}
use Rattle.spe_model.specs.declared.header.HeaderFault.TheVariants.{Short, NotADatabase, Wal, BadPageSize}
use Rattle.spe_model.specs.Big.{u16_at}
use Rattle.spe_model.specs.Content.{Content, bytes_of}
use Rattle.spe_model.specs.Header.{has_fault, is_database, is_page_size, is_wal, page_size_at, page_size_of}
use Rattle.spe_model.specs.Recovery.{front_fault}

-- two lists of bytes that have the same first 24, and a header's length
pub record HaveOneFront (old new : List ℕ) : Type 0 where
  pub front : take 24 new ≡ take 24 old
  pub long_old : 100 ≤ length old
  pub long_new : 100 ≤ length new

byte_within : (bytes : List ℕ) (i : ℕ) → i < 24 → get_or (take 100 bytes) i 0 ≡ get_or (take 24 bytes) i 0
byte_within bytes i low = get_or-take 100 bytes i 0 (omega arith) ∙ sym (get_or-take 24 bytes i 0 low)

byte_same : (old new : List ℕ) → HaveOneFront old new → (i : ℕ) → i < 24 → get_or (take 100 new) i 0 ≡ get_or (take 100 old) i 0
byte_same old new one i low = byte_within new i low ∙ ap (λ (front : List ℕ). get_or front i 0) one.front ∙ sym (byte_within old i low)

u16_bytes : (bytes : List ℕ) → u16_at bytes 16 ≡ get_or bytes 16 0 * 256 + get_or bytes 17 0
unfolding u16_at
u16_bytes bytes = rw (get_or-drop 16 bytes 0 0, get_or-drop 16 bytes 1 0) (omega arith)

pub size_same : (old new : List ℕ) → HaveOneFront old new → page_size_at (take 100 new) ≡ page_size_at (take 100 old)
unfolding page_size_at
size_same old new one =
    ap page_size_of
    (u16_bytes (take 100 new)
    ∙ rw (byte_same old new one 16 (omega arith), byte_same old new one 17 (omega arith)) refl
    ∙ sym (u16_bytes (take 100 old)))

database_same : (old new : List ℕ) → HaveOneFront old new → is_database (take 100 new) ≡ is_database (take 100 old)
unfolding is_database
database_same old new one =
    let first : take 16 (take 100 new) ≡ take 16 (take 100 old) =
    take-take 16 100 new (omega arith) ∙ sym (take-take 16 24 new (omega arith)) ∙ ap (take 16) one.front
    ∙ take-take 16 24 old (omega arith) ∙ sym (take-take 16 100 old (omega arith)) in
    rw (first, byte_same old new one 18 (omega arith), byte_same old new one 19 (omega arith), byte_same old new one 21 (omega arith), byte_same old new one 22 (omega arith), byte_same old new one 23 (omega arith)) refl

wal_same : (old new : List ℕ) → HaveOneFront old new → is_wal (take 100 new) ≡ is_wal (take 100 old)
unfolding is_wal
wal_same old new one = rw (byte_same old new one 18 (omega arith), byte_same old new one 19 (omega arith)) refl

short_none : (bytes : List ℕ) → 100 ≤ length bytes → nat_lt (length (take 100 bytes)) 100 ≡ false
short_none bytes long = let size : length (take 100 bytes) ≡ 100 = length-take 100 bytes ∙ omega arith in rw size refl

pub fault_same : (old new : List ℕ) → HaveOneFront old new
    → find (has_fault (take 100 new)) (Short ∷ NotADatabase ∷ Wal ∷ BadPageSize ∷ []) ≡ find (has_fault (take 100 old)) (Short ∷ NotADatabase ∷ Wal ∷ BadPageSize ∷ [])
fault_same old new one =
    rw (short_none new one.long_new, short_none old one.long_old, database_same old new one, wal_same old new one, size_same old new one) refl

-- a file that can be read has a header, and pages of a legal size
pub record IsReadable (bytes : List ℕ) : Type 0 where
  pub long : 100 ≤ length bytes
  pub low : 512 ≤ page_size_at (take 100 bytes)
  pub high : page_size_at (take 100 bytes) ≤ 65536

none_of : (a b c d : Bool) → (if a then Some Short else (if b then Some NotADatabase else (if c then Some Wal else (if d then Some BadPageSize else None)))) ≡ None
    → (a ≡ false) × (d ≡ false)
none_of true b c d e = absurd cc
none_of false true c d e = absurd cc
none_of false false true d e = absurd cc
none_of false false false true e = absurd cc
none_of false false false false e = (refl, refl)

between : (n : ℕ) → is_page_size n ≡ true → (512 ≤ n) × (n ≤ 65536)
unfolding is_page_size
between n e = (grind (arith, nat_tests), grind (arith, nat_tests))

pub readable : (content : Content) → front_fault content ≡ None → IsReadable (bytes_of content Database)
readable content none =
    let bytes = bytes_of content Database in
    let both = none_of (has_fault (take 100 bytes) Short) (has_fault (take 100 bytes) NotADatabase) (has_fault (take 100 bytes) Wal) (has_fault (take 100 bytes) BadPageSize) none in
    let range = between (page_size_at (take 100 bytes)) (not-false (is_page_size (page_size_at (take 100 bytes))) both.1) in
    let size : length (take 100 bytes) ≡ min 100 (length bytes) = length-take 100 bytes in
    let enough : nat_lt (length (take 100 bytes)) 100 ≡ false = both.0 in
    record { long = grind (arith, nat_tests); low = range.0; high = range.1 }
