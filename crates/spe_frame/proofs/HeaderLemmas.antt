-- The header of page 1 where only its counters changed.
use Rattle.std.proofs.Common.{◌≡◌, ℕ, ◌+◌, ◌-◌, ◌<◌, ◌≤◌, ◌∙◌, List, [], ◌∷◌, take, drop, length, refl, sym, ap, subst, arith, Bool, Option, Some, None, Ok}
use Rattle.std.specs.Prelude.{◌==◌, ◌&&◌, ◌||◌, zero, suc, not, true, nat_lt, slice_index}
use Rattle.std.proofs.lemmas.Bool.{and_parts, eq-eqb, eqb-true, ne_eqb}
use Rattle.std.specs.List.{find}
use Rattle.std.proofs.lemmas.List.{drop-drop, get_or-take, length-take-le, take-take}
use Rattle.std.proofs.lemmas.Slice.{between_is}
use Rattle.byteorder.specs.Endian.{big_number}
use Rattle.byteorder.specs.Numbers.{big_from-take}
use Rattle.spe_model.specs.declared.header.Header.{Header}
use Rattle.spe_model.specs.declared.header.HeaderFault.{HeaderFault}
use Rattle.spe_model.specs.declared.header.HeaderFault.TheVariants.{Short, NotADatabase, Wal, BadPageSize, AutoVacuum, Encoding, Reserved, SchemaFormat}
use Rattle.spe_model.specs.Big.{u16_at, u32_at}
use Rattle.spe_model.specs.Header.{faults, fields, has_fault, is_database, is_page_size, is_size_valid, is_wal, page_size_at, page_size_of, unless}
use Rattle.spe_space.proofs.FrontLemmas.{u32_at-take}
use Rattle.spe_frame.specs.Header.{HeaderStays, ValidIsCounted}
use Rattle.spe_frame.specs.Held.{IsCounted}
use Rattle.spe_frame.proofs.HeadLemmas.{part_alike, take_alike}

-- two headers with the same first 24 bytes, and the same from byte 32 up to 92
record AreLike (xs ys : List ℕ) : Type 0 where
  first : take 24 xs ≡ take 24 ys
  middle : take 60 (drop 32 xs) ≡ take 60 (drop 32 ys)

byte_like : (xs ys : List ℕ) (i : ℕ) → AreLike xs ys → i < 24 → slice_index xs i ≡ slice_index ys i
byte_like xs ys i like low = sym (get_or-take 24 xs i 0 low) ∙ ap (λ (zs : List ℕ). slice_index zs i) like.first ∙ get_or-take 24 ys i 0 low

size_like : (xs ys : List ℕ) → AreLike xs ys → page_size_at xs ≡ page_size_at ys
unfolding page_size_at u16_at
size_like xs ys like =
    let part = part_alike 16 24 xs ys like.first in
    ap page_size_of (sym (big_from-take 0 2 8 (drop 16 xs) (omega arith)) ∙ ap (big_number 2) part ∙ big_from-take 0 2 8 (drop 16 ys) (omega arith))

number_like : (xs ys : List ℕ) (k : ℕ) → AreLike xs ys → k + 4 ≤ 60 → u32_at xs (32 + k) ≡ u32_at ys (32 + k)
unfolding u32_at
number_like xs ys k like low = sym (read xs) ∙ ap (λ (zs : List ℕ). big_number 4 (drop k zs)) like.middle ∙ read ys
  where
    read : (zs : List ℕ) → big_number 4 (drop k (take 60 (drop 32 zs))) ≡ big_number 4 (drop (32 + k) zs)
    read zs = ap (big_number 4) (sym (between_is (drop 32 zs) k 60)) ∙ big_from-take 0 4 (60 - k) (drop k (drop 32 zs)) (omega (arith, low)) ∙ ap (big_number 4) (drop-drop k 32 zs)

database_like : (xs ys : List ℕ) → AreLike xs ys → is_database xs ≡ is_database ys
unfolding is_database
database_like xs ys like =
    rw (
      take_alike 16 24 xs ys (omega arith) like.first,
      byte_like xs ys 18 like (omega arith),
      byte_like xs ys 19 like (omega arith),
      byte_like xs ys 21 like (omega arith),
      byte_like xs ys 22 like (omega arith),
      byte_like xs ys 23 like (omega arith),
    ) refl

wal_like : (xs ys : List ℕ) → AreLike xs ys → is_wal xs ≡ is_wal ys
unfolding is_wal
wal_like xs ys like = rw (byte_like xs ys 18 like (omega arith), byte_like xs ys 19 like (omega arith)) refl

fault_like : (xs ys : List ℕ) → AreLike xs ys → length xs ≡ length ys → (fault : HeaderFault) → has_fault xs fault ≡ has_fault ys fault
fault_like xs ys like long Short = ap (λ (n : ℕ). nat_lt n 100) long
fault_like xs ys like long NotADatabase = ap not (database_like xs ys like)
fault_like xs ys like long Wal = wal_like xs ys like
fault_like xs ys like long BadPageSize = ap (λ (n : ℕ). not (is_page_size n)) (size_like xs ys like)
fault_like xs ys like long AutoVacuum = ap (λ (n : ℕ). not (n == 0)) (number_like xs ys 20 like (omega arith))
fault_like xs ys like long Encoding = ap (λ (n : ℕ). nat_lt 1 n) (number_like xs ys 24 like (omega arith))
fault_like xs ys like long Reserved = rw (size_like xs ys like, byte_like xs ys 20 like (omega arith)) refl
fault_like xs ys like long SchemaFormat = ap (λ (n : ℕ). not ((n == 0) || (n == 4))) (number_like xs ys 12 like (omega arith))

find_like : {X : Type 0} (f g : X → Bool) → ((x : X) → f x ≡ g x) → (xs : List X) → find f xs ≡ find g xs
find_like f g same [] = refl
find_like f g same (x ∷ xs) = rw (same x, find_like f g same xs) refl

legal_parts : (fault : Option HeaderFault) (made header : Header) → unless fault made ≡ Ok header → (fault ≡ None) × (made ≡ header)
legal_parts None made header is = (refl, cc)
legal_parts (Some fault) made header is = absurd cc

part_of_head : (zs : List ℕ) → take 60 (drop 32 (take 100 zs)) ≡ take 60 (drop 32 zs)
part_of_head zs = ap (take 60) (sym (between_is zs 32 100)) ∙ take-take 60 68 (drop 32 zs) (omega arith)

-- numbers that stand in the first hundred bytes
in_head : (k : ℕ) (zs : List ℕ) → k + 4 ≤ 100 → u32_at (take 100 zs) k ≡ u32_at zs k
in_head k zs low = u32_at-take 100 k zs low

valid_parts : (pages change copy : ℕ) → (not (pages == 0) && (change == copy)) ≡ true → (1 ≤ pages) × (change ≡ copy)
valid_parts pages change copy is =
    let parts = and_parts (not (pages == 0)) (change == copy) is in
    (some pages parts.0, eqb-true change copy parts.1)
  where
    some : (n : ℕ) → not (n == 0) ≡ true → 1 ≤ n
    some zero is = absurd cc
    some (suc n) is = omega arith

parts_valid : (pages change copy : ℕ) → 1 ≤ pages → change ≡ copy → (not (pages == 0) && (change == copy)) ≡ true
parts_valid pages change copy some same = rw (ne_eqb pages 0 (λ (e : pages ≡ 0). absurd (omega (arith, e, some))), eq-eqb change copy same) refl

counted_valid : (front : List ℕ) → IsCounted front → is_size_valid (fields (take 100 front)) ≡ true
counted_valid front counted =
    let pages = in_head 28 front (omega arith) in
    parts_valid (u32_at (take 100 front) 28) (u32_at (take 100 front) 24) (u32_at (take 100 front) 92)
    (omega (arith, pages, counted.some)) (in_head 24 front (omega arith) ∙ counted.copied ∙ sym (in_head 92 front (omega arith)))

pub valid_is_counted : ValidIsCounted
valid_is_counted front header legal valid =
    let parts = legal_parts (find (has_fault (take 100 front)) faults) (fields (take 100 front)) header legal in
    let is = subst (λ (h : Header). is_size_valid h ≡ true) (sym parts.1) valid in
    let both = valid_parts (u32_at (take 100 front) 28) (u32_at (take 100 front) 24) (u32_at (take 100 front) 92) is in
    record {
      some = omega (arith, in_head 28 front (omega arith), both.0);
      copied = sym (in_head 24 front (omega arith)) ∙ both.1 ∙ in_head 92 front (omega arith);
    }

pub header_stays : HeaderStays
header_stays old new header legal long_old long_new kept =
    let xs = take 100 new in
    let ys = take 100 old in
    let whole : AreLike new old = record { first = kept.first; middle = kept.middle } in
    let like : AreLike xs ys = record {
      first = take-take 24 100 new (omega arith) ∙ kept.first ∙ sym (take-take 24 100 old (omega arith));
      middle = part_of_head new ∙ kept.middle ∙ sym (part_of_head old);
    } in
    let long : length xs ≡ length ys = length-take-le 100 new long_new ∙ sym (length-take-le 100 old long_old) in
    let parts = legal_parts (find (has_fault ys) faults) (fields ys) header legal in
    let none : find (has_fault xs) faults ≡ None = find_like (has_fault xs) (has_fault ys) (fault_like xs ys like long) faults ∙ parts.0 in
    record {
      now = fields xs;
      legal = ap (λ (fault : Option HeaderFault). unless fault (fields xs)) none;
      size = size_like xs ys like ∙ ap (λ (h : Header). h.page_size) parts.1;
      reserved = byte_like xs ys 20 like (omega arith) ∙ ap (λ (h : Header). h.reserved) parts.1;
      first = number_like xs ys 0 like (omega arith) ∙ ap (λ (h : Header). h.first_free) parts.1;
      free = number_like xs ys 4 like (omega arith) ∙ ap (λ (h : Header). h.free_count) parts.1;
      node = rw (number_like new old 0 whole (omega arith), number_like new old 4 whole (omega arith)) refl;
      number = u32_at-take 100 28 new (omega arith);
      valid = counted_valid new;
    }
