-- The values of a record that are lent one by one.
use Rattle.std.proofs.Common.{◌≡◌, ℕ, ◌+◌, ◌<◌, ◌≤◌, List, [], ◌∷◌, length, take, drop, Bool, true, false, refl, sym, ◌∙◌, ap, arith, Option, Some, None, Result, Ok, Err}
use Rattle.std.specs.Prelude.{nat_lt, if◌then◌else◌}
use Rattle.std.specs.Option.{option_map}
use Rattle.std.proofs.lemmas.Bool.Decides.{nat_tests}
use Rattle.spe_model.specs.declared.value.Value.{Value}
use Rattle.spe_model.specs.declared.record.RecordFault.{RecordFault}
use Rattle.spe_model.specs.declared.record.RecordFault.TheVariants.{ReservedType, Short, Trailing, NotUtf8}
use Rattle.spe_model.specs.Varint.{varint_of}
use Rattle.spe_model.specs.Serial.{types_at, size_of, total, has_reserved}
use Rattle.spe_model.specs.Record.{are_texts, value_of, values_of, record_of_types}
use Rattle.spe_record.specs.declared.counted.Seen.{Seen}
use Rattle.spe_record.specs.Answers.{Fills, values_at}
use Rattle.spe_record.specs.Counted.{count_of, judged, seen_of}
use Rattle.spe_record.specs.Fields.{AreFields}
use Rattle.spe_record.proofs.CountedLemmas.{judged_found}
use Rattle.spe_record.proofs.TypesLemmas.{found}
use Rattle.spe_record.proofs.ValuesLemmas.{fills_first, fills_none, fills_rest, values_first}

abbrev read_by : (a b c d : Bool) → List Value → Result (List Value) RecordFault
read_by a b c d values = if a then Err ReservedType else (if b then Err Short else (if c then Err Trailing else (if d then Ok values else Err NotUtf8)))

read_whole : (a b c d : Bool) (values : List Value) (n : ℕ) → Ok n ≡ count_of (read_by a b c d values) → (b ≡ false) × (c ≡ false) × (read_by a b c d values ≡ Ok values) × (n ≡ length values)
read_whole true b c d values n e = absurd cc
read_whole false true c d values n e = absurd cc
read_whole false false true d values n e = absurd cc
read_whole false false false false values n e = absurd cc
read_whole false false false true values n e = let same : n ≡ length values = cc in (refl, refl, refl, same)

filled : (sum size : ℕ) → nat_lt size sum ≡ false → nat_lt sum size ≡ false → sum ≡ size
filled sum size low high = grind (arith, nat_tests)

-- what serial types and a body that were judged are
pub record IsJudged (types body : List ℕ) (count : ℕ) : Type 0 where
  pub are : AreFields types body count
  pub read : record_of_types (types_at types) body ≡ Ok (values_at (types_at types) body)

judged_by : (found : Option (List ℕ)) (body : List ℕ) (seen : Seen) (n : ℕ) → length body < 18446744073709551615 → Some seen ≡ option_map (seen_of body) found → Ok n ≡ judged seen (length body)
    → Fills found (length body) × (n ≡ length (values_at found body)) × (record_of_types found body ≡ Ok (values_at found body))
judged_by None body seen n few e ok = absurd cc
judged_by (Some types) body seen n few e ok =
    let r = read_whole (has_reserved types) (nat_lt (length body) (total types)) (nat_lt (total types) (length body)) (are_texts (values_of types body)) (values_of types body) n
    (ok ∙ judged_found (Some types) body seen few e) in
    (filled (total types) (length body) r.0 r.1, r.3, r.2)

pub judged_ok : (types body : List ℕ) (seen : Seen) (n : ℕ) → length body < 18446744073709551615 → Some seen ≡ option_map (seen_of body) (types_at types) → Ok n ≡ judged seen (length body) → IsJudged types body n
judged_ok types body seen n few e ok =
    let by = judged_by (types_at types) body seen n few e ok in
    record { are = record { fills = by.0; counted = by.1 }; read = by.2 }

count_err : (fault : RecordFault) (r : Result (List Value) RecordFault) → Err fault ≡ count_of r → Err fault ≡ r
count_err fault (Ok values) e = absurd cc
count_err fault (Err f) e = let same : fault ≡ f = cc in ap Err same

pub judged_err : (types body : List ℕ) (seen : Seen) (fault : RecordFault) → length body < 18446744073709551615 → Some seen ≡ option_map (seen_of body) (types_at types) → Err fault ≡ judged seen (length body)
    → Err fault ≡ record_of_types (types_at types) body
judged_err types body seen fault few e err = count_err fault (record_of_types (types_at types) body) (err ∙ judged_found (types_at types) body seen few e)

-- none is left
pub none_left : (values : List Value) (count : ℕ) → count ≡ length values → count ≡ 0 → values ≡ []
none_left [] count e none = refl
none_left (v ∷ vs) count e none = absurd (omega (arith, e, none))

types_nothing : (left : List ℕ) → length left ≡ 0 → types_at left ≡ Some []
unfolding types_at
types_nothing [] e = refl
types_nothing (b ∷ bs) e = absurd (omega arith)

-- bytes of which some value is left begin with its serial type
pub some_type : (types body : List ℕ) (count : ℕ) → AreFields types body count → 0 < count → 0 < length types
some_type [] body count are some =
    let none : count ≡ length (values_at (Some []) body) = are.counted ∙ ap (λ (ts : Option (List ℕ)). length (values_at ts body)) (types_nothing [] refl) in
    absurd (omega (arith, none, some))
some_type (b ∷ bs) body count are some = omega arith

pub type_there : (types body : List ℕ) (count : ℕ) → AreFields types body count → 0 < count → varint_of types ≡ None → ⊥
type_there types body count are some none = fills_none types body (some_type types body count are some) none are.fills

pub body_there : (types body : List ℕ) (count t n : ℕ) → AreFields types body count → varint_of types ≡ found t n → size_of t ≤ length body
body_there types body count t n are e = fills_first types body t n e are.fills

-- the first value, and the others
pub lent : (types body : List ℕ) (count : ℕ) (v : Value) (front back : List ℕ) (t n : ℕ) → AreFields types body count → varint_of types ≡ found t n → v ≡ value_of t front → front ≡ take (size_of t) body
    → back ≡ drop (size_of t) body → values_at (types_at types) body ≡ v ∷ values_at (types_at (drop n types)) back
lent types body count v front back t n are e is f b = sym (values_first [] types body v front back (values_at (types_at types) body) t n e are.fills refl is f b)

pub fields_behind : (types body : List ℕ) (count less : ℕ) (v : Value) (front back : List ℕ) (t n : ℕ) → AreFields types body count → varint_of types ≡ found t n → v ≡ value_of t front → front ≡ take (size_of t) body
    → back ≡ drop (size_of t) body → count ≡ less + 1 → AreFields (drop n types) back less
fields_behind types body count less v front back t n are e is f b one = record {
  fills = fills_rest types body back t n e are.fills b;
  counted =
      let all = ap length (lent types body count v front back t n are e is f b) in
      let is = are.counted in
      omega (arith, all, is, one);
}
