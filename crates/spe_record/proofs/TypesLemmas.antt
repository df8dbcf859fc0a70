-- Serial types, one after the other.
use Rattle.std.proofs.Common.{◌≡◌, ◌≢◌, ℕ, suc, ◌+◌, ◌-◌, ◌*◌, ◌<◌, ◌≤◌, List, [], ◌∷◌, length, drop, Option, Some, None, refl, sym, ◌∙◌, arith, inl, inr, ap}
use Rattle.std.specs.Option.{option_map}
use Rattle.std.proofs.lemmas.Bool.{cases_lt, cases_eq}
use Rattle.std.proofs.lemmas.Bool.Decides.{nat_tests}
use Rattle.spe_model.specs.Varint.{varint_from, varint_of}
use Rattle.spe_model.specs.Serial.{types_from, types_at}

abbrev pub led_by : ℕ → Option (List ℕ) → Option (List ℕ)
led_by t found = option_map (λ ts. t ∷ ts) found

abbrev value_in : Option (ℕ × ℕ) → ℕ
value_in None = 0
value_in (Some x) = x.0

abbrev length_in : Option (ℕ × ℕ) → ℕ
length_in None = 0
length_in (Some x) = x.1

abbrev pub found : ℕ → ℕ → Option (ℕ × ℕ)
found v n = Some (v, n)

-- how a byte is read, by where it stands and by whether others follow
reads_ninth : (read high b : ℕ) (bs : List ℕ) → read ≡ 8 → varint_from read high (b ∷ bs) ≡ found (high * 256 + b) 9
reads_ninth read high b bs e = grind (arith, nat_tests)

reads_last : (read high b : ℕ) (bs : List ℕ) → read ≢ 8 → b < 128 → varint_from read high (b ∷ bs) ≡ found (high * 128 + b) (read + 1)
reads_last read high b bs e l = grind (arith, nat_tests)

reads_more : (read high b : ℕ) (bs : List ℕ) → read ≢ 8 → 128 ≤ b → varint_from read high (b ∷ bs) ≡ varint_from (read + 1) (high * 128 + (b - 128)) bs
reads_more read high b bs e l = grind (arith, nat_tests)

types_ninth : (read high b : ℕ) (bs : List ℕ) → read ≡ 8 → types_from read high (b ∷ bs) ≡ led_by (high * 256 + b) (types_from 0 0 bs)
types_ninth read high b bs e = grind (arith, nat_tests)

types_last : (read high b : ℕ) (bs : List ℕ) → read ≢ 8 → b < 128 → types_from read high (b ∷ bs) ≡ led_by (high * 128 + b) (types_from 0 0 bs)
types_last read high b bs e l = grind (arith, nat_tests)

types_more : (read high b : ℕ) (bs : List ℕ) → read ≢ 8 → 128 ≤ b → types_from read high (b ∷ bs) ≡ types_from (read + 1) (high * 128 + (b - 128)) bs
types_more read high b bs e l = grind (arith, nat_tests)

byte_cases : (P : Type 0) (read b : ℕ) → (read ≡ 8 → P) → (read ≢ 8 → b < 128 → P) → (read ≢ 8 → 128 ≤ b → P) → P
byte_cases P read b ninth last more =
    elim (cases_eq read 8) [ inl e ↦ ninth e | inr e ↦ elim (cases_lt b 128) [ inl l ↦ last e l | inr l ↦ more e l ] ]

drop_more : (k m b : ℕ) (bs : List ℕ) → k ≡ suc m → drop k (b ∷ bs) ≡ drop m bs
drop_more k m b bs e = rw e refl

-- the parts of what is found
found_is : (a m v n : ℕ) → found a m ≡ found v n → (a ≡ v) × (m ≡ n)
found_is a m v n e = (ap (λ (o : Option (ℕ × ℕ)). value_in o) e, ap (λ (o : Option (ℕ × ℕ)). length_in o) e)

abbrev LedBy : ℕ → ℕ → ℕ → ℕ → List ℕ → Type 0
LedBy read high v n bytes = (read < n) × (types_from read high bytes ≡ led_by v (types_from 0 0 (drop (n - read) bytes)))

types_from_one : (bytes : List ℕ) (read high v n : ℕ) → varint_from read high bytes ≡ found v n → LedBy read high v n bytes
types_from_one [] read high v n e = absurd cc
types_from_one (b ∷ bs) read high v n e =
    byte_cases (LedBy read high v n (b ∷ bs)) read b
    (λ ninth.
    let is : found (high * 256 + b) 9 ≡ found v n = sym (reads_ninth read high b bs ninth) ∙ e in
    let value : high * 256 + b ≡ v = (found_is _ _ _ _ is).0 in
    let len : 9 ≡ n = (found_is _ _ _ _ is).1 in
    let past : drop (n - read) (b ∷ bs) ≡ bs = drop_more (n - read) 0 b bs (omega arith) in
    (omega arith, rw past (rw (← value) (types_ninth read high b bs ninth))))
    (λ other small.
    let is : found (high * 128 + b) (read + 1) ≡ found v n = sym (reads_last read high b bs other small) ∙ e in
    let value : high * 128 + b ≡ v = (found_is _ _ _ _ is).0 in
    let len : read + 1 ≡ n = (found_is _ _ _ _ is).1 in
    let past : drop (n - read) (b ∷ bs) ≡ bs = drop_more (n - read) 0 b bs (omega arith) in
    (omega arith, rw past (rw (← value) (types_last read high b bs other small))))
    (λ other large.
    let next = types_from_one bs (read + 1) (high * 128 + (b - 128)) v n (sym (reads_more read high b bs other large) ∙ e) in
    let past : drop (n - read) (b ∷ bs) ≡ drop (n - (read + 1)) bs = drop_more (n - read) (n - (read + 1)) b bs (omega arith) in
    (omega arith, types_more read high b bs other large ∙ rw past next.1))

abbrev nothing : Option (ℕ × ℕ)
nothing = None

abbrev no_types : Option (List ℕ)
no_types = None

types_from_none : (bytes : List ℕ) (read high : ℕ) → 0 < read + length bytes → varint_from read high bytes ≡ nothing → types_from read high bytes ≡ no_types
types_from_none [] read high some e = grind (arith, nat_tests)
types_from_none (b ∷ bs) read high some e =
    byte_cases (types_from read high (b ∷ bs) ≡ no_types) read b
    (λ ninth. let is : found (high * 256 + b) 9 ≡ nothing = sym (reads_ninth read high b bs ninth) ∙ e in absurd cc)
    (λ other small. let is : found (high * 128 + b) (read + 1) ≡ nothing = sym (reads_last read high b bs other small) ∙ e in absurd cc)
    (λ other large. types_more read high b bs other large
    ∙ types_from_none bs (read + 1) (high * 128 + (b - 128)) (omega arith) (sym (reads_more read high b bs other large) ∙ e))

-- a varint at the front
pub types_one : (bytes : List ℕ) (v n : ℕ) → varint_of bytes ≡ found v n → types_at bytes ≡ led_by v (types_at (drop n bytes))
unfolding varint_of types_at
types_one bytes v n e =
    let all : n - 0 ≡ n = omega arith in
    rw all at (types_from_one bytes 0 0 v n e).1

-- bytes that begin with none
pub types_none : (bytes : List ℕ) → 0 < length bytes → varint_of bytes ≡ nothing → types_at bytes ≡ no_types
unfolding varint_of types_at
types_none bytes some e = types_from_none bytes 0 0 (omega arith) e
