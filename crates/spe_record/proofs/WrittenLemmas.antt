-- A record that is written reads back.
use Rattle.std.proofs.Common.{◌≡◌, ℕ, suc, ℤ, pos, negsuc, ◌+◌, ◌-◌, ◌*◌, ◌/◌, ◌%◌, ◌^◌, ◌≤◌, ◌<◌, List, [], ◌∷◌, ◌++◌, length, take, drop, map, min, Bool, true, false, refl, sym, ap, ◌∙◌, arith, append_assoc, length-append, inl, inr, subst}
use Rattle.std.proofs.lemmas.Bool.{cases_Bool, cases_lt, lt-ltb, le-ltb, eq-eqb, ne_eqb}
use Rattle.std.proofs.lemmas.Bool.Decides.{Decides-int_eq}
use Rattle.std.proofs.lemmas.Int.{ints}
use Rattle.std.proofs.lemmas.List.{take_at, drop_at}
use Rattle.std.proofs.lemmas.List.Sums.{sum_by-cons}
use Rattle.std.specs.Int.{w64}
use Rattle.std.specs.List.{find, flat_map}
use Rattle.std.specs.Option.{unwrap_or}
use Rattle.std.specs.Ordering.{int_eq}
use Rattle.std.specs.Prelude.{Option, Some, Ok, FitsSigned, nat_lt, ◌==◌, ◌-ℤ◌, if◌then◌else◌, sum_by, slice_range}
use Rattle.byteorder.specs.Endian.{big_bytes, low_bytes, twos_complement}
use Rattle.byteorder.specs.Numbers.{big_number-reads_back, length-bytes_high_first}
use Rattle.spe_model.specs.declared.value.Value.{Value}
use Rattle.spe_model.specs.declared.value.Value.TheVariants.{Null, Int, Text, Blob, Real8}
use Rattle.spe_model.specs.Length.{magnitude, integer_type, serial_type, type_length, body_length, header_length, fields, record_length}
use Rattle.spe_model.specs.Record.{value_of, values_of, is_text, are_texts, record_of_types, record_of_header, record_of}
use Rattle.spe_model.specs.Serial.{types_at, size_of, total, is_reserved, has_reserved}
use Rattle.spe_model.specs.Varint.{varint_length}
use Rattle.spe_format.specs.Spelling.{varint_bytes}
use Rattle.spe_record.specs.Written.{type_bytes, value_bytes, fields_bytes, IsSpelled, AreSpelled, IsSound, AreSound}
use Rattle.spe_record.proofs.TypesLemmas.{types_one}

-- the length of a header counts its own bytes
abbrev own : (types : ℕ) → List ℕ → ℕ
own types ns = unwrap_or (find (λ n. nat_lt (types + n) (2 ^ (7 * n))) ns) 9

abbrev spelling : ℕ → List ℕ → ℕ
spelling value ns = unwrap_or (find (λ n. nat_lt value (2 ^ (7 * n))) ns) 9

abbrev AreAbove : ℕ → List ℕ → Type 0
AreAbove low [] = Unit {0}
AreAbove low (n ∷ ns) = (low ≤ n) × (n ≤ 9) × AreAbove n ns

own_least : (types low : ℕ) (ns : List ℕ) → low ≤ 9 → AreAbove low ns → low ≤ own types ns
own_least types low [] few all = few
own_least types low (n ∷ ns) few all =
    elim (cases_lt (types + n) (2 ^ (7 * n))) [
      | inl l ↦ let e : nat_lt (types + n) (2 ^ (7 * n)) ≡ true = lt-ltb (types + n) (2 ^ (7 * n)) l in rw e all.0
      | inr m ↦
          let e : nat_lt (types + n) (2 ^ (7 * n)) ≡ false = le-ltb (types + n) (2 ^ (7 * n)) m in
          let rest : n ≤ own types ns = own_least types n ns all.1 all.2 in
          rw e (omega (arith, rest, all.0))
    ]

own_is : (types low : ℕ) (ns : List ℕ) → AreAbove low ns → spelling (types + own types ns) ns ≡ own types ns
own_is types low [] all = refl
own_is types low (n ∷ ns) all =
    elim (cases_lt (types + n) (2 ^ (7 * n))) [
      | inl l ↦ let e : nat_lt (types + n) (2 ^ (7 * n)) ≡ true = lt-ltb (types + n) (2 ^ (7 * n)) l in rw (e, e) refl
      | inr m ↦
          let e : nat_lt (types + n) (2 ^ (7 * n)) ≡ false = le-ltb (types + n) (2 ^ (7 * n)) m in
          let rest : n ≤ own types ns = own_least types n ns all.1 all.2 in
          let f : nat_lt (types + own types ns) (2 ^ (7 * n)) ≡ false = le-ltb (types + own types ns) (2 ^ (7 * n)) (omega (arith, rest, m)) in
          let here : own types ns ≡ own types (n ∷ ns) = rw e refl in
          subst (λ (m : ℕ). spelling (types + m) (n ∷ ns) ≡ m) here (rw f (own_is types n ns all.2))
    ]

header_counts : (types : ℕ) → header_length types ≡ types + varint_length (header_length types)
unfolding header_length
header_counts types = ap (λ (n : ℕ). types + n) (sym (own_is types 1 (1 ∷ 2 ∷ 3 ∷ 4 ∷ 5 ∷ 6 ∷ 7 ∷ 8 ∷ []) (omega arith, omega arith, (omega arith, omega arith, (omega arith, omega arith, (omega arith, omega arith, (omega arith, omega arith, (omega arith, omega arith, (omega arith, omega arith, (omega arith, omega arith, tt))))))))))

-- whole numbers
minus : (x y n : ℕ) → x < y → y - suc x ≡ n → (pos x -ℤ pos y) ≡ negsuc n
minus x y n below is = omega (arith, ints)

twos_low : (s x : ℕ) → x < 2 ^ (8 * s - 1) → twos_complement s x ≡ pos x
twos_low s x below = rw (lt-ltb x (2 ^ (8 * s - 1)) below) refl

twos_high : (s x n : ℕ) → 2 ^ (8 * s - 1) ≤ x → x < 2 ^ (8 * s) → 2 ^ (8 * s) - suc x ≡ n → twos_complement s x ≡ negsuc n
twos_high s x n high below is = rw (le-ltb x (2 ^ (8 * s - 1)) high) (minus x (2 ^ (8 * s)) n below is)

twos_pos : (s n : ℕ) → n % 2 ^ (8 * s) ≡ n → n < 2 ^ (8 * s - 1) → twos_complement s (low_bytes w64 s (pos n)) ≡ pos n
twos_pos s n low fits = ap (twos_complement s) low ∙ twos_low s n fits

twos_neg : (s n x : ℕ) → (18446744073709551616 - suc n) % 2 ^ (8 * s) ≡ x → 2 ^ (8 * s - 1) ≤ x → x < 2 ^ (8 * s) → 2 ^ (8 * s) - suc x ≡ n
    → twos_complement s (low_bytes w64 s (negsuc n)) ≡ negsuc n
twos_neg s n x low high below is = ap (twos_complement s) low ∙ twos_high s x n high below is

-- the bytes of a whole number, by its serial type
abbrev number_bytes : ℕ → ℤ → List ℕ
number_bytes t n = big_bytes (size_of t) (low_bytes w64 (size_of t) n)

twos_1 : (n : ℤ) → magnitude n < 128 → twos_complement 1 (low_bytes w64 1 n) ≡ n
twos_1 (pos n) fits = twos_pos 1 n (omega arith) fits
twos_1 (negsuc n) fits = twos_neg 1 n (255 - n) (omega arith) (omega arith) (omega arith) (omega arith)

reads_1 : (n : ℤ) → magnitude n < 128 → value_of 1 (number_bytes 1 n) ≡ Int n
unfolding value_of
reads_1 n fits = ap Int (ap (twos_complement 1) (big_number-reads_back 1 (low_bytes w64 1 n) [] (omega arith)) ∙ twos_1 n fits)

twos_2 : (n : ℤ) → magnitude n < 32768 → twos_complement 2 (low_bytes w64 2 n) ≡ n
twos_2 (pos n) fits = twos_pos 2 n (omega arith) fits
twos_2 (negsuc n) fits = twos_neg 2 n (65535 - n) (omega arith) (omega arith) (omega arith) (omega arith)

reads_2 : (n : ℤ) → magnitude n < 32768 → value_of 2 (number_bytes 2 n) ≡ Int n
unfolding value_of
reads_2 n fits = ap Int (ap (twos_complement 2) (big_number-reads_back 2 (low_bytes w64 2 n) [] (omega arith)) ∙ twos_2 n fits)

twos_3 : (n : ℤ) → magnitude n < 8388608 → twos_complement 3 (low_bytes w64 3 n) ≡ n
twos_3 (pos n) fits = twos_pos 3 n (omega arith) fits
twos_3 (negsuc n) fits = twos_neg 3 n (16777215 - n) (omega arith) (omega arith) (omega arith) (omega arith)

reads_3 : (n : ℤ) → magnitude n < 8388608 → value_of 3 (number_bytes 3 n) ≡ Int n
unfolding value_of
reads_3 n fits = ap Int (ap (twos_complement 3) (big_number-reads_back 3 (low_bytes w64 3 n) [] (omega arith)) ∙ twos_3 n fits)

twos_4 : (n : ℤ) → magnitude n < 2147483648 → twos_complement 4 (low_bytes w64 4 n) ≡ n
twos_4 (pos n) fits = twos_pos 4 n (omega arith) fits
twos_4 (negsuc n) fits = twos_neg 4 n (4294967295 - n) (omega arith) (omega arith) (omega arith) (omega arith)

reads_4 : (n : ℤ) → magnitude n < 2147483648 → value_of 4 (number_bytes 4 n) ≡ Int n
unfolding value_of
reads_4 n fits = ap Int (ap (twos_complement 4) (big_number-reads_back 4 (low_bytes w64 4 n) [] (omega arith)) ∙ twos_4 n fits)

twos_5 : (n : ℤ) → magnitude n < 140737488355328 → twos_complement 6 (low_bytes w64 6 n) ≡ n
twos_5 (pos n) fits = twos_pos 6 n (omega arith) fits
twos_5 (negsuc n) fits = twos_neg 6 n (281474976710655 - n) (omega arith) (omega arith) (omega arith) (omega arith)

reads_5 : (n : ℤ) → magnitude n < 140737488355328 → value_of 5 (number_bytes 5 n) ≡ Int n
unfolding value_of
reads_5 n fits = ap Int (ap (twos_complement 6) (big_number-reads_back 6 (low_bytes w64 6 n) [] (omega arith)) ∙ twos_5 n fits)

twos_6 : (n : ℤ) → magnitude n < 9223372036854775808 → twos_complement 8 (low_bytes w64 8 n) ≡ n
twos_6 (pos n) fits = twos_pos 8 n (omega arith) fits
twos_6 (negsuc n) fits = twos_neg 8 n (18446744073709551615 - n) (omega arith) (omega arith) (omega arith) (omega arith)

reads_6 : (n : ℤ) → magnitude n < 9223372036854775808 → value_of 6 (number_bytes 6 n) ≡ Int n
unfolding value_of
reads_6 n fits = ap Int (ap (twos_complement 8) (big_number-reads_back 8 (low_bytes w64 8 n) [] (omega arith)) ∙ twos_6 n fits)

-- the serial type of a whole number is one of these
integer_by : (P : ℕ → Type 0) (n : ℤ) → magnitude n < 9223372036854775808 → (n ≡ pos 0 → P 8) → (n ≡ pos 1 → P 9) → (magnitude n < 128 → P 1) → (magnitude n < 32768 → P 2)
    → (magnitude n < 8388608 → P 3) → (magnitude n < 2147483648 → P 4) → (magnitude n < 140737488355328 → P 5) → (magnitude n < 9223372036854775808 → P 6)
    → P (integer_type n)
integer_by P n fits zero one p1 p2 p3 p4 p5 p6 =
    elim (cases_Bool (int_eq n (pos 0))) [
      | inl e ↦ rw e (zero ((Decides-int_eq n (pos 0)).0 e))
      | inr e ↦
          elim (cases_Bool (int_eq n (pos 1))) [
            | inl f ↦ rw (e, f) (one ((Decides-int_eq n (pos 1)).0 f))
            | inr f ↦ rw (e, f) (by_size (magnitude n) fits p1 p2 p3 p4 p5 p6)
          ]
    ]
  where
    by_size : (m : ℕ) → m < 9223372036854775808 → (m < 128 → P 1) → (m < 32768 → P 2) → (m < 8388608 → P 3) → (m < 2147483648 → P 4) → (m < 140737488355328 → P 5) → (m < 9223372036854775808 → P 6)
        → P (unwrap_or (find (λ t. nat_lt m (2 ^ (8 * size_of t - 1))) (1 ∷ 2 ∷ 3 ∷ 4 ∷ 5 ∷ [])) 6)
    by_size m fits p1 p2 p3 p4 p5 p6 =
        elim (cases_lt m 128) [
          | inl l ↦ rw (lt-ltb m 128 l) (p1 l)
          | inr a ↦
              elim (cases_lt m 32768) [
                | inl l ↦ rw (le-ltb m 128 a, lt-ltb m 32768 l) (p2 l)
                | inr b ↦
                    elim (cases_lt m 8388608) [
                      | inl l ↦ rw (le-ltb m 128 a, le-ltb m 32768 b, lt-ltb m 8388608 l) (p3 l)
                      | inr c ↦
                          elim (cases_lt m 2147483648) [
                            | inl l ↦ rw (le-ltb m 128 a, le-ltb m 32768 b, le-ltb m 8388608 c, lt-ltb m 2147483648 l) (p4 l)
                            | inr d ↦
                                elim (cases_lt m 140737488355328) [
                                  | inl l ↦ rw (le-ltb m 128 a, le-ltb m 32768 b, le-ltb m 8388608 c, le-ltb m 2147483648 d, lt-ltb m 140737488355328 l) (p5 l)
                                  | inr e ↦ rw (le-ltb m 128 a, le-ltb m 32768 b, le-ltb m 8388608 c, le-ltb m 2147483648 d, le-ltb m 140737488355328 e) (p6 fits)
                                ]
                          ]
                    ]
              ]
        ]

in_range : (n : ℤ) → FitsSigned w64 n → magnitude n < 9223372036854775808
in_range (pos n) fits = omega (arith, fits)
in_range (negsuc n) fits = omega (arith, fits)

-- what a serial type says of its value
record IsTyped (t : ℕ) (bytes : List ℕ) (v : Value) : Type 0 where
  pub reads : value_of t bytes ≡ v
  pub size : size_of t ≡ length bytes
  pub free : is_reserved t ≡ false

zero_typed : (n : ℤ) → n ≡ pos 0 → IsTyped 8 (number_bytes 8 n) (Int n)
unfolding value_of
zero_typed n e = record { reads = ap Int (sym e); size = refl; free = refl }

one_typed : (n : ℤ) → n ≡ pos 1 → IsTyped 9 (number_bytes 9 n) (Int n)
unfolding value_of
one_typed n e = record { reads = ap Int (sym e); size = refl; free = refl }

integer_typed : (n : ℤ) → FitsSigned w64 n → IsTyped (integer_type n) (number_bytes (integer_type n) n) (Int n)
integer_typed n fits =
    integer_by (λ t. IsTyped t (number_bytes t n) (Int n)) n (in_range n fits) (zero_typed n) (one_typed n)
    (λ l. record { reads = reads_1 n l; size = refl; free = refl }) (λ l. record { reads = reads_2 n l; size = refl; free = refl })
    (λ l. record { reads = reads_3 n l; size = refl; free = refl }) (λ l. record { reads = reads_4 n l; size = refl; free = refl })
    (λ l. record { reads = reads_5 n l; size = refl; free = refl }) (λ l. record { reads = reads_6 n l; size = refl; free = refl })

real_typed : (bytes : List ℕ) → length bytes ≡ 8 → IsTyped 7 bytes (Real8 bytes)
unfolding value_of
real_typed bytes long = record { reads = refl; size = sym long; free = refl }

-- types from 12 on
long_size : (t : ℕ) → 12 ≤ t → size_of t ≡ (t - 12) / 2
long_size t high =
    let a : nat_lt t 5 ≡ false = le-ltb t 5 (omega arith) in
    let b : (t == 5) ≡ false = ne_eqb t 5 (λ e. omega arith) in
    let c : nat_lt t 8 ≡ false = le-ltb t 8 (omega arith) in
    let d : nat_lt t 12 ≡ false = le-ltb t 12 high in
    rw (a, b, c, d) refl

long_free : (t : ℕ) → 12 ≤ t → is_reserved t ≡ false
long_free t high =
    let a : (t == 10) ≡ false = ne_eqb t 10 (λ e. omega arith) in
    let b : (t == 11) ≡ false = ne_eqb t 11 (λ e. omega arith) in
    rw (a, b) refl

abbrev long_one : Bool → List ℕ → Value
long_one even bytes = if even then Blob bytes else Text bytes

long_value : (t : ℕ) (bytes : List ℕ) → 12 ≤ t → value_of t bytes ≡ long_one (t % 2 == 0) bytes
unfolding value_of
long_value t bytes high =
    let n : (t == 0) ≡ false = ne_eqb t 0 (λ e. omega arith) in
    let a : (t == 10) ≡ false = ne_eqb t 10 (λ e. omega arith) in
    let b : (t == 11) ≡ false = ne_eqb t 11 (λ e. omega arith) in
    let c : nat_lt t 7 ≡ false = le-ltb t 7 (omega arith) in
    let d : (t == 7) ≡ false = ne_eqb t 7 (λ e. omega arith) in
    let e : (t == 8) ≡ false = ne_eqb t 8 (λ e. omega arith) in
    let f : (t == 9) ≡ false = ne_eqb t 9 (λ e. omega arith) in
    rw (n, a, b, c, d, e, f) refl

blob_typed : (bytes : List ℕ) → IsTyped (12 + 2 * length bytes) bytes (Blob bytes)
blob_typed bytes =
    let even : ((12 + 2 * length bytes) % 2 == 0) ≡ true = eq-eqb ((12 + 2 * length bytes) % 2) 0 (omega arith) in
    record {
      reads = long_value (12 + 2 * length bytes) bytes (omega arith) ∙ rw even refl;
      size = long_size (12 + 2 * length bytes) (omega arith) ∙ omega arith;
      free = long_free (12 + 2 * length bytes) (omega arith);
    }

text_typed : (bytes : List ℕ) → IsTyped (13 + 2 * length bytes) bytes (Text bytes)
text_typed bytes =
    let odd : ((13 + 2 * length bytes) % 2 == 0) ≡ false = ne_eqb ((13 + 2 * length bytes) % 2) 0 (λ e. omega arith) in
    record {
      reads = long_value (13 + 2 * length bytes) bytes (omega arith) ∙ rw odd refl;
      size = long_size (13 + 2 * length bytes) (omega arith) ∙ omega arith;
      free = long_free (13 + 2 * length bytes) (omega arith);
    }

null_typed : IsTyped 0 [] Null
unfolding value_of
null_typed = record { reads = refl; size = refl; free = refl }

value_typed : (v : Value) → IsSound v → IsTyped (serial_type v) (value_bytes v) v
unfolding value_bytes
value_typed Null sound = null_typed
value_typed (Int n) sound = integer_typed n sound
value_typed (Text bytes) sound = text_typed bytes
value_typed (Blob bytes) sound = blob_typed bytes
value_typed (Real8 bytes) sound = real_typed bytes sound

value_is_text : (v : Value) → IsSound v → is_text v ≡ true
value_is_text Null sound = refl
value_is_text (Int n) sound = refl
value_is_text (Text bytes) sound = sound
value_is_text (Blob bytes) sound = refl
value_is_text (Real8 bytes) sound = refl

body_is : (v : Value) → IsSound v → body_length v ≡ length (value_bytes v)
unfolding body_length value_bytes
body_is Null sound = refl
body_is (Int n) sound = sym (length-bytes_high_first (size_of (integer_type n)) (low_bytes w64 (size_of (integer_type n)) n))
body_is (Text bytes) sound = refl
body_is (Blob bytes) sound = refl
body_is (Real8 bytes) sound = sym sound

-- all fields
reserved_none : (vs : List Value) → AreSound vs → has_reserved (map serial_type vs) ≡ false
reserved_none [] sound = refl
reserved_none (v ∷ vs) sound = let typed = value_typed v sound.0 in rw (typed.free, reserved_none vs sound.1) refl

total_is : (vs : List Value) → AreSound vs → total (map serial_type vs) ≡ length (flat_map value_bytes vs)
total_is [] sound = refl
total_is (v ∷ vs) sound =
    let typed = value_typed v sound.0 in
    rw (length-append (value_bytes v) (flat_map value_bytes vs), typed.size, total_is vs sound.1) refl

values_read : (vs : List Value) → AreSound vs → values_of (map serial_type vs) (flat_map value_bytes vs) ≡ vs
values_read [] sound = refl
values_read (v ∷ vs) sound =
    let typed = value_typed v sound.0 in
    let front : take (size_of (serial_type v)) (value_bytes v ++ flat_map value_bytes vs) ≡ value_bytes v = take_at (value_bytes v) (flat_map value_bytes vs) (size_of (serial_type v)) (sym typed.size) in
    let back : drop (size_of (serial_type v)) (value_bytes v ++ flat_map value_bytes vs) ≡ flat_map value_bytes vs = drop_at (value_bytes v) (flat_map value_bytes vs) (size_of (serial_type v)) (sym typed.size) in
    rw (front, back, typed.reads, values_read vs sound.1) refl

texts_are : (vs : List Value) → AreSound vs → are_texts vs ≡ true
texts_are [] sound = refl
texts_are (v ∷ vs) sound = rw (value_is_text v sound.0, texts_are vs sound.1) refl

nothing_read : types_at [] ≡ Some []
unfolding types_at
nothing_read = refl

types_read : (vs : List Value) → AreSpelled vs → types_at (flat_map type_bytes vs) ≡ Some (map serial_type vs)
unfolding type_bytes
types_read [] spelled = nothing_read
types_read (v ∷ vs) spelled =
    let bytes = varint_bytes (serial_type v) in
    let behind = flat_map type_bytes vs in
    types_one (bytes ++ behind) (serial_type v) (length bytes) (spelled.0.reads behind)
    ∙ rw (drop_at bytes behind (length bytes) refl, types_read vs spelled.1) refl

types_sum : (vs : List Value) → AreSpelled vs → sum_by type_length vs ≡ length (flat_map type_bytes vs)
unfolding type_length type_bytes
types_sum [] spelled = refl
types_sum (v ∷ vs) spelled =
    sum_by-cons type_length v vs
    ∙ rw (length-append (varint_bytes (serial_type v)) (flat_map type_bytes vs), spelled.0.long, types_sum vs spelled.1) refl

bodies_sum : (vs : List Value) → AreSound vs → sum_by body_length vs ≡ length (flat_map value_bytes vs)
bodies_sum [] sound = refl
bodies_sum (v ∷ vs) sound =
    sum_by-cons body_length v vs
    ∙ rw (length-append (value_bytes v) (flat_map value_bytes vs), body_is v sound.0, bodies_sum vs sound.1) refl

-- the length of the header, in bytes that are there
header_is : (vs : List Value) → AreSpelled vs → IsSpelled (header_length (sum_by type_length vs))
    → header_length (sum_by type_length vs) ≡ length (varint_bytes (header_length (sum_by type_length vs))) + length (flat_map type_bytes vs)
header_is vs spelled own_spelled =
    let counts = header_counts (sum_by type_length vs) in
    let sum = types_sum vs spelled in
    omega (arith, counts, sum, own_spelled.long)

-- how long the written record is
pub record_long : (alias : Option ℕ) (values : List Value) → AreSpelled (fields alias values) → AreSound (fields alias values)
    → IsSpelled (header_length (sum_by type_length (fields alias values))) → length (fields_bytes (fields alias values)) ≡ record_length alias values
unfolding record_length
record_long alias values spelled sound own_spelled =
    let vs = fields alias values in
    let front = varint_bytes (header_length (sum_by type_length vs)) in
    let header = header_is vs spelled own_spelled in
    let bodies = bodies_sum vs sound in
    let parts = length-append front (flat_map type_bytes vs ++ flat_map value_bytes vs) in
    let others = length-append (flat_map type_bytes vs) (flat_map value_bytes vs) in
    omega (arith, header, bodies, parts, others)

body_reads : (vs : List Value) → AreSound vs → record_of_types (Some (map serial_type vs)) (flat_map value_bytes vs) ≡ Ok vs
body_reads vs sound =
    let size = total_is vs sound in
    let enough : nat_lt (length (flat_map value_bytes vs)) (total (map serial_type vs)) ≡ false = le-ltb (length (flat_map value_bytes vs)) (total (map serial_type vs)) (omega (arith, size)) in
    let whole : nat_lt (total (map serial_type vs)) (length (flat_map value_bytes vs)) ≡ false = le-ltb (total (map serial_type vs)) (length (flat_map value_bytes vs)) (omega (arith, size)) in
    rw (reserved_none vs sound, enough, whole, values_read vs sound, texts_are vs sound) refl

header_passes : (size first : ℕ) (bytes : List ℕ) → nat_lt size first ≡ false → nat_lt (length bytes) size ≡ false
    → record_of_header (Some (size, first)) bytes ≡ record_of_types (types_at (slice_range bytes first size)) (drop size bytes)
header_passes size first bytes low high = rw (low, high) refl

-- the fields are read again
pub record_reads : (vs : List Value) → AreSpelled vs → AreSound vs → IsSpelled (header_length (sum_by type_length vs)) → record_of (fields_bytes vs) ≡ Ok vs
unfolding record_of
record_reads vs spelled sound own_spelled =
    let size = header_length (sum_by type_length vs) in
    let front = varint_bytes size in
    let types = flat_map type_bytes vs in
    let bodies = flat_map value_bytes vs in
    let header : size ≡ length front + length types = header_is vs spelled own_spelled in
    let ahead : length (front ++ types) ≡ size = length-append front types ∙ sym header in
    let parts : front ++ (types ++ bodies) ≡ (front ++ types) ++ bodies = sym (append_assoc front types bodies) in
    let long : length (front ++ (types ++ bodies)) ≡ size + length bodies = ap length parts ∙ length-append (front ++ types) bodies ∙ ap (λ (n : ℕ). n + length bodies) ahead in
    let low : nat_lt size (length front) ≡ false = le-ltb size (length front) (omega (arith, header)) in
    let high : nat_lt (length (front ++ (types ++ bodies))) size ≡ false = le-ltb (length (front ++ (types ++ bodies))) size (omega (arith, long)) in
    let few : size - length front ≡ length types = omega (arith, header) in
    let inner : slice_range (front ++ (types ++ bodies)) (length front) size ≡ types =
    ap (take (size - length front)) (drop_at front (types ++ bodies) (length front) refl) ∙ take_at types bodies (size - length front) (sym few) in
    let behind : drop size (front ++ (types ++ bodies)) ≡ bodies = ap (drop size) parts ∙ drop_at (front ++ types) bodies size ahead in
    let bytes = front ++ (types ++ bodies) in
    ap (λ (found : Option (ℕ × ℕ)). record_of_header found bytes) (own_spelled.reads (types ++ bodies)) ∙ header_passes size (length front) bytes low high
    ∙ ap (λ (ts : List ℕ). record_of_types (types_at ts) (drop size bytes)) inner
    ∙ ap (λ (ts : Option (List ℕ)). record_of_types ts (drop size bytes)) (types_read vs spelled)
    ∙ ap (λ (body : List ℕ). record_of_types (Some (map serial_type vs)) body) behind
    ∙ body_reads vs sound

-- the number in front, where the types are few
own_most : (types : ℕ) (ns : List ℕ) (low : ℕ) → AreAbove low ns → own types ns ≤ 9
own_most types [] low all = omega arith
own_most types (n ∷ ns) low all =
    elim (cases_lt (types + n) (2 ^ (7 * n))) [
      | inl l ↦ let e : nat_lt (types + n) (2 ^ (7 * n)) ≡ true = lt-ltb (types + n) (2 ^ (7 * n)) l in rw e all.1
      | inr m ↦ let e : nat_lt (types + n) (2 ^ (7 * n)) ≡ false = le-ltb (types + n) (2 ^ (7 * n)) m in rw e (own_most types ns n all.2)
    ]

header_most : (types : ℕ) → header_length types ≤ types + 9
unfolding header_length
header_most types = let most = own_most types (1 ∷ 2 ∷ 3 ∷ 4 ∷ 5 ∷ 6 ∷ 7 ∷ 8 ∷ []) 1 (omega arith, omega arith, (omega arith, omega arith, (omega arith, omega arith, (omega arith, omega arith, (omega arith, omega arith, (omega arith, omega arith, (omega arith, omega arith, (omega arith, omega arith, tt)))))))) in omega (arith, most)

header_least : (types : ℕ) → types ≤ header_length types
unfolding header_length
header_least types = omega arith

-- the length of a row's record, where its parts may be cut
pub record_cut : (alias : Option ℕ) (values : List Value) (types header bodies whole : ℕ) → types ≡ min (sum_by type_length (fields alias values)) 18446744073709551615
    → header ≡ min (header_length types) 18446744073709551615 → bodies ≡ min (sum_by body_length (fields alias values)) 18446744073709551615
    → whole ≡ min (header + bodies) 18446744073709551615 → whole ≡ min (record_length alias values) 18446744073709551615
unfolding record_length
record_cut alias values types header bodies whole one two three four =
    let sum = sum_by type_length (fields alias values) in
    elim (cases_lt sum 18446744073709551615) [
      | inl below ↦
          let same : types ≡ sum = omega (arith, one, below) in
          let exact : header ≡ min (header_length sum) 18446744073709551615 = two ∙ ap (λ (n : ℕ). min (header_length n) 18446744073709551615) same in
          omega (arith, exact, three, four)
      | inr above ↦
          let least = header_least types in
          let more = header_least sum in
          omega (arith, least, more, above, one, two, three, four)
    ]

pub header_exact : (sum types header : ℕ) → types ≡ min sum 18446744073709551615 → types ≤ 4611686018427387904 → header ≡ min (header_length types) 18446744073709551615
    → header ≡ header_length sum
header_exact sum types header cut few is =
    let same : types ≡ sum = omega arith in
    let most = header_most types in
    let exact : header ≡ header_length types = omega (arith, most, is, few) in
    exact ∙ ap header_length same

-- one part behind the other
pub all_written : (start first second last : List ℕ) (header : ℕ) (vs : List Value) → start ≡ [] → first ≡ start ++ varint_bytes header
    → second ≡ first ++ flat_map type_bytes vs → last ≡ second ++ flat_map value_bytes vs → header ≡ header_length (sum_by type_length vs)
    → last ≡ fields_bytes vs
all_written start first second last header vs none one two three is =
    three ∙ ap (λ (xs : List ℕ). xs ++ flat_map value_bytes vs) (two ∙ ap (λ (xs : List ℕ). xs ++ flat_map type_bytes vs) (one ∙ ap (λ (xs : List ℕ). xs ++ varint_bytes header) none))
    ∙ append_assoc (varint_bytes header) (flat_map type_bytes vs) (flat_map value_bytes vs)
    ∙ ap (λ (n : ℕ). varint_bytes n ++ (flat_map type_bytes vs ++ flat_map value_bytes vs)) is
