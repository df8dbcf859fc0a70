-- Page 1 with other counters and another first page of its free lists.
use Rattle.std.proofs.Common.{◌≡◌, ℕ, ◌+◌, ◌-◌, ◌%◌, ◌^◌, ◌<◌, ◌≤◌, ◌∙◌, List, [], ◌∷◌, ◌++◌, take, drop, length, refl, sym, ap, arith, append_assoc, true, Bool, Option, Some, None, Ok}
use Rattle.std.specs.Prelude.{◌==◌, ◌&&◌, ◌||◌, not, nat_lt, slice_index, find, if◌then◌else◌}
use Rattle.std.proofs.lemmas.Bool.{eq-eqb, ne_eqb}
use Rattle.std.proofs.lemmas.List.{drop-drop, drop_at, get_or-take, length-append, length-drop, length-take-le, take-take, take_at}
use Rattle.std.proofs.lemmas.Slice.{between_is}
use Rattle.byteorder.specs.Endian.{big_bytes, big_number}
use Rattle.byteorder.specs.Numbers.{big_from-take, length-bytes_high_first}
use Rattle.spe_model.specs.declared.header.Header.{Header}
use Rattle.spe_model.specs.declared.header.HeaderFault.{HeaderFault}
use Rattle.spe_model.specs.declared.header.HeaderFault.TheVariants.{Short, NotADatabase, Wal, BadPageSize, AutoVacuum, Encoding, Reserved, SchemaFormat}
use Rattle.spe_model.specs.Big.{u16_at, u32_at}
use Rattle.spe_model.specs.Header.{faults, fields, has_fault, header_of, is_database, is_page_size, is_wal, page_size_at, page_size_of, unless}
use Rattle.spe_frame.proofs.HeadLemmas.{part_alike, take_alike}
use Rattle.spe_frame.proofs.FrontLemmas.{AreAlike}
use Rattle.spe_convert.specs.Changes.{front_page}
use Rattle.spe_convert.proofs.TrunkLemmas.{IsSmall, drop_number, one_at}

-- two headers with the same first 24 bytes, and the same from byte 40 up to 92
pub record AreLike (xs ys : List ℕ) : Type 0 where
  pub first : take 24 xs ≡ take 24 ys
  pub middle : take 52 (drop 40 xs) ≡ take 52 (drop 40 ys)

byte_like : (xs ys : List ℕ) (i : ℕ) → AreLike xs ys → i < 24 → slice_index xs i ≡ slice_index ys i
byte_like xs ys i like low = sym (get_or-take 24 xs i 0 low) ∙ ap (λ (zs : List ℕ). slice_index zs i) like.first ∙ get_or-take 24 ys i 0 low

size_like : (xs ys : List ℕ) → AreLike xs ys → page_size_at xs ≡ page_size_at ys
unfolding page_size_at u16_at
size_like xs ys like =
    let part = part_alike 16 24 xs ys like.first in
    ap page_size_of (sym (big_from-take 0 2 8 (drop 16 xs) (omega arith)) ∙ ap (big_number 2) part ∙ big_from-take 0 2 8 (drop 16 ys) (omega arith))

number_like : (xs ys : List ℕ) (k : ℕ) → AreLike xs ys → k + 4 ≤ 52 → u32_at xs (40 + k) ≡ u32_at ys (40 + k)
unfolding u32_at
number_like xs ys k like low = sym (read xs) ∙ ap (λ (zs : List ℕ). big_number 4 (drop k zs)) like.middle ∙ read ys
  where
    read : (zs : List ℕ) → big_number 4 (drop k (take 52 (drop 40 zs))) ≡ big_number 4 (drop (40 + k) zs)
    read zs = ap (big_number 4) (sym (between_is (drop 40 zs) k 52)) ∙ big_from-take 0 4 (52 - k) (drop k (drop 40 zs)) (omega (arith, low)) ∙ ap (big_number 4) (drop-drop k 40 zs)

database_like : (xs ys : List ℕ) → AreLike xs ys → is_database xs ≡ is_database ys
unfolding is_database
database_like xs ys like =
    rw (
      take_alike 16 24 xs ys (omega arith) like.first,
      byte_like xs ys 18 like (omega arith),
      byte_like xs ys 19 like (omega arith),
      byte_like xs ys 21 like (omega arith),
      byte_like xs ys 22 like (omega arith),
      byte_like xs ys 23 like (omega arith),
    ) refl

wal_like : (xs ys : List ℕ) → AreLike xs ys → is_wal xs ≡ is_wal ys
unfolding is_wal
wal_like xs ys like = rw (byte_like xs ys 18 like (omega arith), byte_like xs ys 19 like (omega arith)) refl

fault_like : (xs ys : List ℕ) → AreLike xs ys → length xs ≡ length ys → (fault : HeaderFault) → has_fault xs fault ≡ has_fault ys fault
fault_like xs ys like long Short = ap (λ (n : ℕ). nat_lt n 100) long
fault_like xs ys like long NotADatabase = ap not (database_like xs ys like)
fault_like xs ys like long Wal = wal_like xs ys like
fault_like xs ys like long BadPageSize = ap (λ (n : ℕ). not (is_page_size n)) (size_like xs ys like)
fault_like xs ys like long AutoVacuum = ap (λ (n : ℕ). not (n == 0)) (number_like xs ys 12 like (omega arith))
fault_like xs ys like long Encoding = ap (λ (n : ℕ). nat_lt 1 n) (number_like xs ys 16 like (omega arith))
fault_like xs ys like long Reserved = rw (size_like xs ys like, byte_like xs ys 20 like (omega arith)) refl
fault_like xs ys like long SchemaFormat = ap (λ (n : ℕ). not ((n == 0) || (n == 4))) (number_like xs ys 4 like (omega arith))

find_like : {X : Type 0} (f g : X → Bool) → ((x : X) → f x ≡ g x) → (xs : List X) → find f xs ≡ find g xs
find_like f g same [] = refl
find_like {X = X} f g same (x ∷ xs) =
    ap (λ (b : Bool). if b then Some x else find f xs) (same x) ∙ ap (λ (o : Option X). if g x then Some x else o) (find_like f g same xs)

legal_parts : (fault : Option HeaderFault) (made header : Header) → unless fault made ≡ Ok header → (fault ≡ None) × (made ≡ header)
legal_parts None made header is = (refl, cc)
legal_parts (Some fault) made header is = absurd cc

part_of_head : (zs : List ℕ) → take 52 (drop 40 (take 100 zs)) ≡ take 52 (drop 40 zs)
part_of_head zs = ap (take 52) (sym (between_is zs 40 100)) ∙ take-take 52 60 (drop 40 zs) (omega arith)

-- a header that is like a legal one is legal, with the same sizes
pub record LegalAgain (new : List ℕ) (header : Header) : Type 0 where
  pub legal : header_of (take 100 new) ≡ Ok (fields (take 100 new))
  pub size : page_size_at (take 100 new) ≡ header.page_size
  pub reserved : slice_index (take 100 new) 20 ≡ header.reserved

pub legal_again : (old new : List ℕ) (header : Header) → header_of (take 100 old) ≡ Ok header → 100 ≤ length old → length new ≡ length old → AreLike new old
    → LegalAgain new header
legal_again old new header legal long same whole =
    let xs = take 100 new in
    let ys = take 100 old in
    let like : AreLike xs ys = record {
      first = take-take 24 100 new (omega arith) ∙ whole.first ∙ sym (take-take 24 100 old (omega arith));
      middle = part_of_head new ∙ whole.middle ∙ sym (part_of_head old);
    } in
    let lengths : length xs ≡ length ys = length-take-le 100 new (omega (arith, long, same)) ∙ sym (length-take-le 100 old long) in
    let parts = legal_parts (find (has_fault ys) faults) (fields ys) header legal in
    let none : find (has_fault xs) faults ≡ None = find_like (has_fault xs) (has_fault ys) (fault_like xs ys like lengths) faults ∙ parts.0 in
    record {
      legal = ap (λ (fault : Option HeaderFault). unless fault (fields xs)) none;
      size = size_like xs ys like ∙ ap (λ (h : Header). h.page_size) parts.1;
      reserved = byte_like xs ys 20 like (omega arith) ∙ ap (λ (h : Header). h.reserved) parts.1;
    }

pub parts_valid : (pages change copy : ℕ) → 1 ≤ pages → change ≡ copy → (not (pages == 0) && (change == copy)) ≡ true
parts_valid pages change copy some same = rw (ne_eqb pages 0 (λ (e : pages ≡ 0). absurd (omega (arith, e, some))), eq-eqb change copy same) refl

pub front_long : (count first free : ℕ) (old : List ℕ) → 100 ≤ length old → length (front_page count first free old) ≡ length old
unfolding front_page
front_long count first free old long =
    let x = (u32_at old 24 + 1) % 2 ^ 32 in
    let a = take 24 old in
    let r = big_bytes 4 x in
    let c = big_bytes 4 count in
    let f = big_bytes 4 first in
    let n = big_bytes 4 free in
    let m = take 52 (drop 40 old) in
    let d = drop 96 old in
    let rest : length (drop 40 old) ≡ length old - 40 = length-drop 40 old in
    let la : length a ≡ 24 = length-take-le 24 old (omega (arith, long)) in
    let lm : length m ≡ 52 = length-take-le 52 (drop 40 old) (omega (arith, rest, long)) in
    let ld : length d ≡ length old - 96 = length-drop 96 old in
    let lr = length-bytes_high_first 4 x in
    let lc = length-bytes_high_first 4 count in
    let lf = length-bytes_high_first 4 first in
    let ln = length-bytes_high_first 4 free in
    let l1 = length-append a r in
    let l2 = length-append (a ++ r) c in
    let l3 = length-append (a ++ r ++ c) f in
    let l4 = length-append (a ++ r ++ c ++ f) n in
    let l5 = length-append (a ++ r ++ c ++ f ++ n) m in
    let l6 = length-append (a ++ r ++ c ++ f ++ n ++ m) r in
    let l7 = length-append (a ++ r ++ c ++ f ++ n ++ m ++ r) d in
    omega (arith, la, lm, ld, lr, lc, lf, ln, l1, l2, l3, l4, l5, l6, l7, long)

-- what page 1 with its new front says
pub record FrontIs (count first free : ℕ) (old new : List ℕ) : Type 0 where
  pub like : AreLike new old
  pub alike : AreAlike 100 new old
  pub count_is : u32_at new 28 ≡ count
  pub first_is : u32_at new 32 ≡ first
  pub free_is : u32_at new 36 ≡ free
  pub copied : u32_at new 24 ≡ u32_at new 92

pub front_is : (count first free : ℕ) (old : List ℕ) → IsSmall count → IsSmall first → IsSmall free → 100 ≤ length old
    → FrontIs count first free old (front_page count first free old)
unfolding front_page
front_is count first free old small_count small_first small_free long =
    let x = (u32_at old 24 + 1) % 2 ^ 32 in
    let small : IsSmall x = omega arith in
    let new = front_page count first free old in
    let a = take 24 old in
    let r = big_bytes 4 x in
    let c = big_bytes 4 count in
    let f = big_bytes 4 first in
    let n = big_bytes 4 free in
    let m = take 52 (drop 40 old) in
    let d = drop 96 old in
    let length_a : length a ≡ 24 = length-take-le 24 old (omega (arith, long)) in
    let length_rest : length (drop 40 old) ≡ length old - 40 = length-drop 40 old in
    let length_m : length m ≡ 52 = length-take-le 52 (drop 40 old) (omega (arith, length_rest, long)) in
    let whole : new ≡ a ++ (r ++ (c ++ (f ++ (n ++ (m ++ (r ++ d)))))) = simp append_assoc in
    let from24 : drop 24 new ≡ r ++ (c ++ (f ++ (n ++ (m ++ (r ++ d))))) = ap (drop 24) whole ∙ drop_at a (r ++ (c ++ (f ++ (n ++ (m ++ (r ++ d)))))) 24 length_a in
    let from28 : drop 28 new ≡ c ++ (f ++ (n ++ (m ++ (r ++ d)))) = drop_number new 24 x (c ++ (f ++ (n ++ (m ++ (r ++ d))))) from24 in
    let from32 : drop 32 new ≡ f ++ (n ++ (m ++ (r ++ d))) = drop_number new 28 count (f ++ (n ++ (m ++ (r ++ d)))) from28 in
    let from36 : drop 36 new ≡ n ++ (m ++ (r ++ d)) = drop_number new 32 first (n ++ (m ++ (r ++ d))) from32 in
    let from40 : drop 40 new ≡ m ++ (r ++ d) = drop_number new 36 free (m ++ (r ++ d)) from36 in
    let from92 : drop 92 new ≡ r ++ d = sym (drop-drop 52 40 new) ∙ ap (drop 52) from40 ∙ drop_at m (r ++ d) 52 length_m in
    let from96 : drop 96 new ≡ d = drop_number new 92 x d from92 in
    let at24 = one_at new 24 x (c ++ (f ++ (n ++ (m ++ (r ++ d))))) from24 small in
    let at92 = one_at new 92 x d from92 small in
    let length_new : length new ≡ length old = front_long count first free old long in
    record {
      like = record {
        first = ap (take 24) whole ∙ take_at a (r ++ (c ++ (f ++ (n ++ (m ++ (r ++ d)))))) 24 length_a;
        middle = ap (take 52) from40 ∙ take_at m (r ++ d) 52 length_m;
      };
      alike = record {
        bytes = sym (drop-drop 4 96 new) ∙ ap (drop 4) from96 ∙ drop-drop 4 96 old;
        long = length_new;
      };
      count_is = one_at new 28 count (f ++ (n ++ (m ++ (r ++ d)))) from28 small_count;
      first_is = one_at new 32 first (n ++ (m ++ (r ++ d))) from32 small_first;
      free_is = one_at new 36 free (m ++ (r ++ d)) from36 small_free;
      copied = at24 ∙ sym at92;
    }
