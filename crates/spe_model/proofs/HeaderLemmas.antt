-- Numbers written into page 1 read back.
use Rattle.std.proofs.Common.{◌≡◌, ℕ, ◌+◌, ◌-◌, ◌^◌, ◌≤◌, ◌<◌, ◌∙◌, List, [], ◌∷◌, ◌++◌, length, take, drop, Bool, true, Option, Some, None, Ok, refl, sym, ap, inl, inr, arith, append_assoc, length-append, length-drop}
use Rattle.std.specs.Prelude.{◌&&◌, leb, slice_index, IsOk}
use Rattle.std.proofs.lemmas.Bool.{and_parts, cases_eq, leb-true, ne_eqb}
use Rattle.std.proofs.lemmas.List.{drop_at, get_or-drop, length-take-le, take-append-le, take-take}
use Rattle.std.proofs.lemmas.Slice.{between_is}
use Rattle.std.specs.List.{find}
use Rattle.byteorder.specs.Endian.{big_bytes, big_number}
use Rattle.byteorder.specs.Numbers.{big_from-take, big_number-reads_back, length-bytes_high_first}
use Rattle.spe_model.specs.declared.header.Header.{Header}
use Rattle.spe_model.specs.declared.header.HeaderFault.{HeaderFault}
use Rattle.spe_model.specs.Big.{u16_at, u32_at}
use Rattle.spe_model.specs.Header.{IsSized, Piece, ReadsBack, faults, fields, has_fault, page_size_at, page_size_of, pieces_of, size_number, unless, with_bytes, with_header, with_pieces}

length-with_bytes : (at : ℕ) (bytes page : List ℕ) → at + length bytes ≤ length page → length (with_bytes at bytes page) ≡ length page
length-with_bytes at bytes page fits =
    omega (arith, length-append (take at page ++ bytes) (drop (at + length bytes) page), length-append (take at page) bytes, length-take-le at page (omega (arith, fits)), length-drop (at + length bytes) page)

take-with_bytes : (n at : ℕ) (bytes page : List ℕ) → n ≤ at → at ≤ length page → take n (with_bytes at bytes page) ≡ take n page
take-with_bytes n at bytes page below within =
    let front : length (take at page) ≡ at = length-take-le at page within in
    ap (take n) (append_assoc (take at page) bytes (drop (at + length bytes) page))
    ∙ take-append-le n (take at page) (bytes ++ drop (at + length bytes) page) (omega arith) ∙ take-take n at page below

-- whether each piece lies from one place on and before another
abbrev are_between : (low high : ℕ) → List Piece → Bool
are_between low high [] = true
are_between low high (piece ∷ pieces) = leb low piece.at && (leb (piece.at + length piece.bytes) high && are_between low high pieces)

record Between (low high : ℕ) (piece : Piece) (pieces : List Piece) : Type 0 where
  low_is : low ≤ piece.at
  high_is : piece.at + length piece.bytes ≤ high
  rest : are_between low high pieces ≡ true

between : (low high : ℕ) (piece : Piece) (pieces : List Piece) → are_between low high (piece ∷ pieces) ≡ true → Between low high piece pieces
between low high piece pieces are =
    let first = and_parts (leb low piece.at) (leb (piece.at + length piece.bytes) high && are_between low high pieces) are in
    let second = and_parts (leb (piece.at + length piece.bytes) high) (are_between low high pieces) first.1 in
    record { low_is = leb-true low piece.at first.0; high_is = leb-true (piece.at + length piece.bytes) high second.0; rest = second.1 }

length-with_pieces : (low high : ℕ) (pieces : List Piece) (page : List ℕ) → are_between low high pieces ≡ true → high ≤ length page → length (with_pieces pieces page) ≡ length page
length-with_pieces low high [] page are long = refl
length-with_pieces low high (piece ∷ pieces) page are long =
    let here = between low high piece pieces are in
    let same = length-with_bytes piece.at piece.bytes page (omega (arith, here.high_is)) in
    length-with_pieces low high pieces (with_bytes piece.at piece.bytes page) here.rest (omega arith) ∙ same

-- what stands before all pieces stays
take-with_pieces : (low high : ℕ) (pieces : List Piece) (page : List ℕ) → are_between low high pieces ≡ true → high ≤ length page → take low (with_pieces pieces page) ≡ take low page
take-with_pieces low high [] page are long = refl
take-with_pieces low high (piece ∷ pieces) page are long =
    let here = between low high piece pieces are in
    let same = length-with_bytes piece.at piece.bytes page (omega (arith, here.high_is)) in
    take-with_pieces low high pieces (with_bytes piece.at piece.bytes page) here.rest (omega arith)
    ∙ take-with_bytes low piece.at piece.bytes page here.low_is (omega (arith, here.high_is))

-- a number reads no byte past its end
number-take : (k at width : ℕ) (xs : List ℕ) → at + width ≤ k → big_number width (drop at (take k xs)) ≡ big_number width (drop at xs)
number-take k at width xs within = rw (← between_is xs at k) (big_from-take 0 width (k - at) (drop at xs) (omega (arith, within)))

number_laid : (at width x : ℕ) (page : List ℕ) → at ≤ length page → x < 256 ^ width → big_number width (drop at (with_bytes at (big_bytes width x) page)) ≡ x
number_laid at width x page within small =
    let tail = drop (at + length (big_bytes width x)) page in
    let behind : drop at (with_bytes at (big_bytes width x) page) ≡ big_bytes width x ++ tail =
    rw (append_assoc (take at page) (big_bytes width x) tail) (drop_at (take at page) (big_bytes width x ++ tail) at (length-take-le at page within)) in
    rw behind (big_number-reads_back width x tail small)

-- a number of the pieces reads back, from any front of the page that has it
number_put : (before after : List Piece) (at width x k : ℕ) (page : List ℕ) → 100 ≤ length page → at + width ≤ 100 → at + width ≤ k → x < 256 ^ width
    → are_between 0 100 before ≡ true → are_between (at + width) 100 after ≡ true
    → big_number width (drop at (take k (with_pieces after (with_bytes at (big_bytes width x) (with_pieces before page))))) ≡ x
number_put before after at width x k page long low within small first last =
    let start = with_pieces before page in
    let put = with_bytes at (big_bytes width x) start in
    let len_start : length start ≡ length page = length-with_pieces 0 100 before page first long in
    let wide : length (big_bytes width x) ≡ width = length-bytes_high_first width x in
    let len_put : length put ≡ length start = length-with_bytes at (big_bytes width x) start (omega arith) in
    number-take k at width (with_pieces after put) within
    ∙ sym (number-take (at + width) at width (with_pieces after put) (omega arith))
    ∙ ap (λ (xs : List ℕ). big_number width (drop at xs)) (take-with_pieces (at + width) 100 after put last (omega arith))
    ∙ number-take (at + width) at width put (omega arith)
    ∙ number_laid at width x start (omega arith) small

size_back : (size : ℕ) → 512 ≤ size → page_size_of (size_number size) ≡ size
size_back size low = elim (cases_eq size 65536) [
  | inl same ↦ rw same refl
  | inr other ↦ rw (ne_eqb size 65536 other, ne_eqb size 1 (λ (e : size ≡ 1). absurd (omega (arith, e, low)))) refl
]

size_small : (size : ℕ) → size ≤ 65536 → size_number size < 65536
size_small size high = elim (cases_eq size 65536) [
  | inl same ↦ rw same (omega arith)
  | inr other ↦ rw (ne_eqb size 65536 other) (omega (arith, other, high))
]

-- the numbers of a header fit their places
pub record AreSmall (h : Header) : Type 0 where
  pub reserved : h.reserved < 256
  pub change : h.change < 4294967296
  pub pages : h.pages < 4294967296
  pub first_free : h.first_free < 4294967296
  pub free_count : h.free_count < 4294967296
  pub cookie : h.cookie < 4294967296
  pub schema_format : h.schema_format < 4294967296
  pub valid_for : h.valid_for < 4294967296

number_back : (h : Header) (k i at x : ℕ) (page : List ℕ) → 100 ≤ k → 100 ≤ length page → at + 4 ≤ 100 → x < 4294967296
    → are_between 0 100 (take i (pieces_of h)) ≡ true → are_between (at + 4) 100 (drop (i + 1) (pieces_of h)) ≡ true
    → u32_at (take k (with_pieces (drop (i + 1) (pieces_of h)) (with_bytes at (big_bytes 4 x) (with_pieces (take i (pieces_of h)) page)))) at ≡ x
unfolding u32_at
number_back h k i at x page enough long low small first last =
    number_put (take i (pieces_of h)) (drop (i + 1) (pieces_of h)) at 4 x k page long low (omega arith) (omega (arith, small)) first last

-- bytes that name a header
record Names (all : List ℕ) (h : Header) : Type 0 where
  page_size : page_size_at all ≡ h.page_size
  reserved : slice_index all 20 ≡ h.reserved
  change : u32_at all 24 ≡ h.change
  pages : u32_at all 28 ≡ h.pages
  first_free : u32_at all 32 ≡ h.first_free
  free_count : u32_at all 36 ≡ h.free_count
  cookie : u32_at all 40 ≡ h.cookie
  schema_format : u32_at all 44 ≡ h.schema_format
  valid_for : u32_at all 92 ≡ h.valid_for

names : (h : Header) (k : ℕ) (page : List ℕ) → 100 ≤ k → 100 ≤ length page → IsSized h → AreSmall h → Names (take k (with_header h page)) h
unfolding with_header page_size_at u16_at
names h k page enough long sized small = record {
  page_size = ap page_size_of (number_put [] (drop 1 (pieces_of h)) 16 2 (size_number h.page_size) k page long (omega arith) (omega arith) (omega (arith, size_small h.page_size sized.high)) refl refl)
      ∙ size_back h.page_size sized.low;
  reserved = (let one : big_number 1 (drop 20 (take k (with_header h page))) ≡ h.reserved =
      number_put (take 1 (pieces_of h)) (drop 2 (pieces_of h)) 20 1 h.reserved k page long (omega arith) (omega arith) (omega (arith, small.reserved)) refl refl in
      omega (arith, get_or-drop 20 (take k (with_header h page)) 0 0, one));
  change = number_back h k 2 24 h.change page enough long (omega arith) small.change refl refl;
  pages = number_back h k 3 28 h.pages page enough long (omega arith) small.pages refl refl;
  first_free = number_back h k 4 32 h.first_free page enough long (omega arith) small.first_free refl refl;
  free_count = number_back h k 5 36 h.free_count page enough long (omega arith) small.free_count refl refl;
  cookie = number_back h k 6 40 h.cookie page enough long (omega arith) small.cookie refl refl;
  schema_format = number_back h k 7 44 h.schema_format page enough long (omega arith) small.schema_format refl refl;
  valid_for = number_back h k 9 92 h.valid_for page enough long (omega arith) small.valid_for refl refl;
}

fields_named : (all : List ℕ) (h : Header) → Names all h → h.encoding ≡ 1 → fields all ≡ h
fields_named all h are utf8 =
    rw (are.page_size, are.reserved, are.change, are.pages, are.first_free, are.free_count, are.cookie, are.schema_format, ← utf8, are.valid_for) refl

legal_fields : (fault : Option HeaderFault) (made : Header) → IsOk (unless fault made) → unless fault made ≡ Ok made
legal_fields None made legal = refl
legal_fields (Some fault) made legal = absurd cc

pub reads_back : (h : Header) (page : List ℕ) → 100 ≤ length page → AreSmall h → ReadsBack h (with_header h page)
reads_back h page long small sized utf8 n enough legal =
    legal_fields (find (has_fault (take n (with_header h page))) faults) (fields (take n (with_header h page))) legal
    ∙ ap Ok (fields_named (take n (with_header h page)) h (names h n page enough long sized small) utf8)
