-- What serial types say of a record, one after the other.
use Rattle.std.proofs.Common.{◌≡◌, ℕ, zero, suc, ◌+◌, ◌-◌, ◌<◌, ◌≤◌, List, [], ◌∷◌, length, take, drop, Bool, true, false, refl, sym, ◌∙◌, ap, arith, inl, inr, Option, Some, None, Result, Ok, Err}
use Rattle.std.specs.Prelude.{ℤ, pos, ◌%◌, ◌==◌, ◌||◌, ◌&&◌, not, nat_lt, slice_range, if◌then◌else◌}
use Rattle.std.specs.Option.{option_map}
use Rattle.std.proofs.Math.Bool.{and_assoc, or_assoc}
use Rattle.std.proofs.lemmas.Bool.Decides.{nat_tests}
use Rattle.std.proofs.lemmas.List.{drop-take, take_rest}
use Rattle.std.proofs.lemmas.Bool.{cases_lt, lt-ltb, le-ltb}
use Rattle.std.proofs.lemmas.Str.{IsUtf8-nil, is_utf8-from_IsUtf8}
use Rattle.byteorder.specs.Endian.{big_number, twos_complement}
use Rattle.spe_model.specs.declared.value.Value.{Value}
use Rattle.spe_model.specs.declared.value.Value.TheVariants.{Null, Int, Text, Blob, Real8}
use Rattle.spe_model.specs.declared.record.RecordFault.{RecordFault}
use Rattle.spe_model.specs.declared.record.RecordFault.TheVariants.{HeaderLength, ReservedType, Short, Trailing, NotUtf8, Memory}
use Rattle.spe_model.specs.Varint.{varint_of}
use Rattle.spe_model.specs.Serial.{types_at, size_of, total, has_reserved, is_reserved}
use Rattle.spe_model.specs.Record.{are_texts, is_text, value_of, values_of, record_of, record_of_header, record_of_types}
use Rattle.spe_record.specs.declared.counted.Seen.{Seen}
use Rattle.spe_record.specs.Answers.{FailsRecord, NoTexts, TriesLengths, of_texts}
use Rattle.spe_record.specs.Counted.{at_most, count_of, judged, seen_behind, seen_of, seen_with}
use Rattle.spe_record.proofs.TypesLemmas.{found, led_by, types_none, types_one}

abbrev made : ℕ → Bool → ℕ → Bool → Seen
made count reserved total texts = record { count = count; reserved = reserved; total = total; texts = texts }

abbrev some_seen : Seen → Option Seen
some_seen seen = Some seen

abbrev counted : ℕ → Result ℕ RecordFault
counted n = Ok n

or_none : (a : Bool) → (a || false) ≡ a
or_none true = refl
or_none false = refl

and_all : (a : Bool) → (a && true) ≡ a
and_all true = refl
and_all false = refl

seen_is : {a b : ℕ} {c d : Bool} {e f : ℕ} {g h : Bool} → a ≡ b → c ≡ d → e ≡ f → g ≡ h → made a c e g ≡ made b d f h
seen_is p q r s = rw (p, q, r, s) refl

seen_more : (seen : Seen) (body : List ℕ) (v : ℕ) (ts : List ℕ)
    → seen_behind seen body (v ∷ ts) ≡ seen_behind (seen_with seen v (take (size_of v) body)) (drop (size_of v) body) ts
seen_more seen body v ts =
    let count : seen.count + length (v ∷ ts) ≡ seen.count + 1 + length ts = omega arith in
    let sum : at_most (seen.total + total (v ∷ ts)) ≡ at_most (at_most (seen.total + size_of v) + total ts) = omega arith in
    seen_is count (sym (or_assoc seen.reserved (is_reserved v) (has_reserved ts))) sum
    (sym (and_assoc seen.texts (is_text (value_of v (take (size_of v) body))) (are_texts (values_of ts (drop (size_of v) body)))))

map_more : (seen : Seen) (body : List ℕ) (v : ℕ) (types : Option (List ℕ))
    → option_map (seen_behind seen body) (led_by v types) ≡ option_map (seen_behind (seen_with seen v (take (size_of v) body)) (drop (size_of v) body)) types
map_more seen body v None = refl
map_more seen body v (Some ts) = ap some_seen (seen_more seen body v ts)

-- a turn of the loop
pub seen_turn : (seen : Seen) (body left value after : List ℕ) (v n : ℕ) (whole : Option Seen) → varint_of left ≡ found v n
    → value ≡ take (size_of v) body → after ≡ drop (size_of v) body → option_map (seen_behind seen body) (types_at left) ≡ whole
    → option_map (seen_behind (seen_with seen v value) after) (types_at (drop n left)) ≡ whole
seen_turn seen body left value after v n whole e front back same =
    rw (front, back) (sym (map_more seen body v (types_at (drop n left))) ∙ (ap (option_map (seen_behind seen body)) (sym (types_one left v n e)) ∙ same))

types_nothing : (left : List ℕ) → length left ≡ 0 → types_at left ≡ Some []
unfolding types_at
types_nothing [] e = refl
types_nothing (b ∷ bs) e = absurd (omega arith)

seen_all : (seen : Seen) (body : List ℕ) → seen.total ≤ 18446744073709551615 → seen_behind seen body [] ≡ seen
seen_all seen body small =
    let sum : at_most (seen.total + 0) ≡ seen.total = omega arith in
    seen_is (omega arith) (or_none seen.reserved) sum (and_all seen.texts)

-- its end
pub seen_end : (seen : Seen) (body left : List ℕ) (whole : Option Seen) → length left ≡ 0 → seen.total ≤ 18446744073709551615
    → option_map (seen_behind seen body) (types_at left) ≡ whole → Some seen ≡ whole
seen_end seen body left whole none small same =
    ap some_seen (sym (seen_all seen body small)) ∙ (ap (option_map (seen_behind seen body)) (sym (types_nothing left none)) ∙ same)

values_length : (types body : List ℕ) → length (values_of types body) ≡ length types
values_length [] body = refl
values_length (t ∷ ts) body = ap suc (values_length ts (drop (size_of t) body))

most_above : (n sum : ℕ) → n < 18446744073709551615 → nat_lt n (at_most sum) ≡ nat_lt n sum
most_above n sum few = elim (cases_lt n sum) [
  | inl l ↦ lt-ltb n (at_most sum) (omega arith) ∙ sym (lt-ltb n sum l)
  | inr l ↦ le-ltb n (at_most sum) (omega arith) ∙ sym (le-ltb n sum l)
]

most_below : (n sum : ℕ) → n < 18446744073709551615 → nat_lt (at_most sum) n ≡ nat_lt sum n
most_below n sum few = elim (cases_lt sum n) [
  | inl l ↦ lt-ltb (at_most sum) n (omega arith) ∙ sym (lt-ltb sum n l)
  | inr l ↦ le-ltb (at_most sum) n (omega arith) ∙ sym (le-ltb sum n l)
]

judged_cases : (a b c d : Bool) (values : List Value)
    → (if a then Err ReservedType else (if b then Err Short else (if c then Err Trailing else (if not d then Err NotUtf8 else counted (length values)))))
    ≡ count_of (if a then Err ReservedType else (if b then Err Short else (if c then Err Trailing else (if d then Ok values else Err NotUtf8))))
judged_cases true b c d values = refl
judged_cases false true c d values = refl
judged_cases false false true d values = refl
judged_cases false false false true values = refl
judged_cases false false false false values = refl

judged_types : (types body : List ℕ) → length body < 18446744073709551615 → judged (seen_of body types) (length body) ≡ count_of (record_of_types (Some types) body)
judged_types types body few =
    rw (most_above (length body) (total types) few, most_below (length body) (total types) few, ← values_length types body)
    (judged_cases (has_reserved types) (nat_lt (length body) (total types)) (nat_lt (total types) (length body)) (are_texts (values_of types body)) (values_of types body))

pub judged_found : (found : Option (List ℕ)) (body : List ℕ) (seen : Seen) → length body < 18446744073709551615 → Some seen ≡ option_map (seen_of body) found
    → judged seen (length body) ≡ count_of (record_of_types found body)
judged_found None body seen few e = absurd cc
judged_found (Some types) body seen few e = let same : seen ≡ seen_of body types = cc in rw same (judged_types types body few)

judged_header : (bytes types body : List ℕ) (header first : ℕ) (seen : Seen) → first ≤ header → header ≤ length bytes → types ≡ slice_range bytes first header
    → body ≡ drop header bytes → length body < 18446744073709551615 → Some seen ≡ option_map (seen_of body) (types_at types)
    → judged seen (length body) ≡ count_of (record_of_header (found header first) bytes)
judged_header bytes types body header first seen low high t b few e =
    let no : nat_lt header first ≡ false = le-ltb header first low in
    let none : nat_lt (length bytes) header ≡ false = le-ltb (length bytes) header high in
    rw (no, none, ← t, ← b) (judged_found (types_at types) body seen few e)

-- what the whole record says
pub judged_record : (bytes types body : List ℕ) (header first : ℕ) (seen : Seen) → varint_of bytes ≡ found header first → first ≤ header → header ≤ length bytes
    → types ≡ slice_range bytes first header → body ≡ drop header bytes → length body < 18446744073709551615
    → Some seen ≡ option_map (seen_of body) (types_at types) → judged seen (length body) ≡ count_of (record_of bytes)
unfolding record_of
judged_record bytes types body header first seen v low high t b few e = rw v (judged_header bytes types body header first seen low high t b few e)

-- its stop
pub seen_stop : (seen : Seen) (body left : List ℕ) (whole : Option Seen) → 0 < length left → varint_of left ≡ None
    → option_map (seen_behind seen body) (types_at left) ≡ whole → None ≡ whole
seen_stop seen body left whole some e same = ap (option_map (seen_behind seen body)) (sym (types_none left some e)) ∙ same

-- the rest of a front is a part of the whole
pub types_is : (bytes front : List ℕ) (header first : ℕ) → front ≡ take header bytes → first ≤ header
    → take (length front - first) (drop first front) ≡ slice_range bytes first header
types_is bytes front header first f low =
    let sum : header ≡ first + (header - first) = omega arith in
    let whole : drop first (take header bytes) ≡ take (header - first) (drop first bytes)
    = ap (λ (n : ℕ). drop first (take n bytes)) sum ∙ drop-take first (header - first) bytes in
    take_rest front first ∙ (ap (drop first) f ∙ whole)

-- ---- the lengths of values that are made

either : (a : Bool) (v w : Value) → is_text v ≡ true → is_text w ≡ true → is_text (if a then v else w) ≡ true
either true v w x y = x
either false v w x y = y

abbrev no_bytes : List ℕ
no_bytes = []

abbrev no_number : ℤ
no_number = twos_complement (length no_bytes) (big_number (length no_bytes) no_bytes)

empty_text : (kind : ℕ) → is_text (value_of kind []) ≡ true
unfolding value_of
empty_text kind =
    let last : Value = if kind % 2 == 0 then Blob [] else Text [] in
    let one : Value = if kind == 9 then Int (pos 1) else last in
    let zeros : Value = if kind == 8 then Int (pos 0) else one in
    let reals : Value = if kind == 7 then Real8 [] else zeros in
    let numbers : Value = if nat_lt kind 7 then Int no_number else reals in
    either ((kind == 0) || (kind == 10) || (kind == 11)) Null numbers refl
    (either (nat_lt kind 7) (Int no_number) reals refl
    (either (kind == 7) (Real8 []) zeros refl (either (kind == 8) (Int (pos 0)) one refl (either (kind == 9) (Int (pos 1)) last refl (either (kind % 2 == 0) (Blob []) (Text []) refl (is_utf8-from_IsUtf8 [] IsUtf8-nil))))))

no_front : (n : ℕ) → take n no_bytes ≡ no_bytes
no_front zero = refl
no_front (suc n) = refl

no_back : (n : ℕ) → drop n no_bytes ≡ no_bytes
no_back zero = refl
no_back (suc n) = refl

-- texts without bytes are UTF-8
empty_texts : (types : List ℕ) → are_texts (values_of types []) ≡ true
empty_texts [] = refl
empty_texts (t ∷ ts) = rw (no_front (size_of t), no_back (size_of t), empty_text t, empty_texts ts) refl

abbrev SaysOf : Result ℕ RecordFault → (sum size : ℕ) → (read texts : Result (List Value) RecordFault) → Type 0
SaysOf (Ok n) sum size read texts = (sum ≡ size) × (read ≡ texts)
SaysOf (Err f) sum size read texts = read ≡ Err f

says_cases : (a b c t : Bool) (values : List Value) (sum size n : ℕ) (r : Result ℕ RecordFault) → nat_lt size sum ≡ b → nat_lt sum size ≡ c
    → r ≡ (if a then Err ReservedType else (if b then Err Short else (if c then Err Trailing else counted n)))
    → SaysOf r sum size (if a then Err ReservedType else (if b then Err Short else (if c then Err Trailing else (if t then Ok values else Err NotUtf8)))) (if t then Ok values else Err NotUtf8)
says_cases true b c t values sum size n r low high e = rw e refl
says_cases false true c t values sum size n r low high e = rw e refl
says_cases false false true t values sum size n r low high e = rw e refl
says_cases false false false t values sum size n r low high e = let same : sum ≡ size = grind (arith, nat_tests) in rw e (same, refl)

judged_empty : (types body : List ℕ) → length body < 18446744073709551615 → judged (seen_of [] types) (length body)
    ≡ (if has_reserved types then Err ReservedType else (if nat_lt (length body) (total types) then Err Short else (if nat_lt (total types) (length body) then Err Trailing else counted (length types))))
judged_empty types body few = rw (most_above (length body) (total types) few, most_below (length body) (total types) few, empty_texts types) refl

abbrev Says : Result ℕ RecordFault → Option (List ℕ) → List ℕ → Type 0
Says (Ok n) types body = TriesLengths (Ok tt) types body
Says (Err f) types body = TriesLengths (Err f) types body

says_types : (types body : List ℕ) (r : Result ℕ RecordFault) → length body < 18446744073709551615 → r ≡ judged (seen_of [] types) (length body) → Says r (Some types) body
says_types types body r few e =
    by_result r (says_cases (has_reserved types) (nat_lt (length body) (total types)) (nat_lt (total types) (length body)) (are_texts (values_of types body)) (values_of types body) (total types) (length body)
    (length types) r refl refl (e ∙ judged_empty types body few))
  where
    by_result : (r : Result ℕ RecordFault) → SaysOf r (total types) (length body) (record_of_types (Some types) body) (of_texts (values_of types body)) → Says r (Some types) body
    by_result (Ok n) says = says
    by_result (Err f) says = says

-- what the serial types of a record say without its texts
pub lengths_say : (types : Option (List ℕ)) (body : List ℕ) (seen : Seen) (r : Result ℕ RecordFault) → length body < 18446744073709551615 → Some seen ≡ option_map (seen_of []) types
    → r ≡ judged seen (length body) → Says r types body
lengths_say None body seen r few e j = absurd cc
lengths_say (Some types) body seen r few e j =
    let same : seen ≡ seen_of [] types = cc in
    says_types types body r few (j ∙ ap (λ (s : Seen). judged s (length body)) same)

abbrev pub no_seen : Option Seen
no_seen = None

pub lengths_none : (types : Option (List ℕ)) (body : List ℕ) → no_seen ≡ option_map (seen_of []) types → record_of_types types body ≡ Err HeaderLength
lengths_none None body e = refl
lengths_none (Some types) body e = absurd cc

-- what decides behind them
pub fails_is : (fault : RecordFault) (reading : Result (List Value) RecordFault) → reading ≡ Err fault → FailsRecord fault reading
fails_is HeaderLength reading is = is
fails_is ReservedType reading is = is
fails_is Short reading is = is
fails_is Trailing reading is = is
fails_is NotUtf8 reading is = is
fails_is Memory reading is = tt

pub texts_made : (reading : Result (List Value) RecordFault) (values made : List Value) → reading ≡ of_texts values → made ≡ values → are_texts values ≡ true → reading ≡ Ok made
texts_made reading values made is same all = rw (is, all, same) refl

pub texts_fail : (fault : RecordFault) (reading : Result (List Value) RecordFault) (values : List Value) → reading ≡ of_texts values → NoTexts fault (are_texts values) → FailsRecord fault reading
texts_fail NotUtf8 reading values is none = rw (is, none) refl
texts_fail Memory reading values is none = tt
texts_fail HeaderLength reading values is none = absurd none
texts_fail ReservedType reading values is none = absurd none
texts_fail Short reading values is none = absurd none
texts_fail Trailing reading values is none = absurd none

header_is : (bytes types body : List ℕ) (header first : ℕ) → first ≤ header → header ≤ length bytes → types ≡ slice_range bytes first header → body ≡ drop header bytes
    → record_of_header (found header first) bytes ≡ record_of_types (types_at types) body
header_is bytes types body header first low high t b =
    let no : nat_lt header first ≡ false = le-ltb header first low in
    let none : nat_lt (length bytes) header ≡ false = le-ltb (length bytes) header high in
    rw (no, none, ← t, ← b) refl

-- a record by its two parts
pub record_is : (bytes types body : List ℕ) (header first : ℕ) → varint_of bytes ≡ found header first → first ≤ header → header ≤ length bytes
    → types ≡ slice_range bytes first header → body ≡ drop header bytes → record_of bytes ≡ record_of_types (types_at types) body
unfolding record_of
record_is bytes types body header first v low high t b = rw v (header_is bytes types body header first low high t b)
