-- A cell that is written reads back.
use Rattle.std.proofs.Common.{◌≡◌, ℕ, ◌-◌, ◌*◌, ◌/◌, ◌^◌, ℤ, ◌≤◌, ◌<◌, pos, List, [], ◌∷◌, ◌++◌, length, true, false, refl, sym, ap, arith, append_assoc, length-append, Option, Some, inl, inr}
use Rattle.std.proofs.lemmas.Bool.{cases_lt, cases_eq, lt-ltb, le-ltb, eq-eqb, ne_eqb}
use Rattle.std.proofs.lemmas.Int.{to_z-of_z}
use Rattle.std.proofs.lemmas.List.{take_at, drop_at}
use Rattle.std.proofs.Math.Facts.{Fits-of_z, Fits-lt-pow}
use Rattle.std.specs.Int.{w64, cast_signed, cast_unsigned}
use Rattle.std.specs.List.{find}
use Rattle.std.specs.Option.{unwrap_or}
use Rattle.std.specs.Prelude.{nat_lt, FitsSigned, ◌==◌}
use Rattle.byteorder.specs.Endian.{big_bytes}
use Rattle.byteorder.specs.Numbers.{big_number-reads_back}
use Rattle.spe_model.specs.declared.page.Cell.{Cell}
use Rattle.spe_model.specs.declared.page.Kind.{Kind}
use Rattle.spe_model.specs.declared.page.Kind.TheVariants.{TableLeaf, TableInterior, IndexLeaf, IndexInterior}
use Rattle.spe_model.specs.Big.{u32_at}
use Rattle.spe_model.specs.Cell.{◌>>=◌, number_at, long_at, left_at, payload_at, key_at, bytes_at, chain_at, cell_at}
use Rattle.spe_model.specs.Kind.{is_leaf, is_table, has_payload}
use Rattle.spe_model.specs.Varint.{varint_of, varint_length}
use Rattle.spe_format.specs.Canonical.{left_bytes, payload_bytes, key_bytes, chain_bytes, cell_bytes, IsWritableCell, IsInRange}
use Rattle.spe_format.specs.Spelling.{varint_bytes}
use Rattle.spe_format.proofs.VarintLemmas.{groups_length, spelled, spelled_few, reads_back}

-- a length of spellings that a number fits
abbrev pub IsLength : ℕ → ℕ → Type 0
IsLength value len = (1 ≤ len) × (len ≤ 9) × (len < 9 → value < 128 ^ len)

abbrev AreLengths : List ℕ → Type 0
AreLengths [] = Unit {0}
AreLengths (n ∷ ns) = (1 ≤ n) × (n ≤ 9) × (2 ^ (7 * n) ≡ 128 ^ n) × AreLengths ns

abbrev first : ℕ → List ℕ → ℕ
first value ns = unwrap_or (find (λ n. nat_lt value (2 ^ (7 * n))) ns) 9

first_is : (value : ℕ) (ns : List ℕ) → AreLengths ns → IsLength value (first value ns)
first_is value [] all = (omega arith, omega arith, λ less. absurd (omega arith))
first_is value (n ∷ ns) all =
    elim (cases_lt value (2 ^ (7 * n))) [
      | inl l ↦ let e : nat_lt value (2 ^ (7 * n)) ≡ true = lt-ltb value (2 ^ (7 * n)) l in rw e (all.0, all.1, λ less. rw all.2 at l)
      | inr m ↦ let e : nat_lt value (2 ^ (7 * n)) ≡ false = le-ltb value (2 ^ (7 * n)) m in rw e (first_is value ns all.3)
    ]

pub varint_length_is : (value : ℕ) → IsLength value (varint_length value)
varint_length_is value =
    first_is value (1 ∷ 2 ∷ 3 ∷ 4 ∷ 5 ∷ 6 ∷ 7 ∷ 8 ∷ [])
    (omega arith, omega arith, refl, (omega arith, omega arith, refl, (omega arith, omega arith, refl, (omega arith, omega arith, refl, (omega arith, omega arith, refl, (omega arith, omega arith, refl, (omega arith, omega arith, refl, (omega arith, omega arith, refl, tt))))))))

spelled_length : (len value : ℕ) → 1 ≤ len → len ≤ 9 → length (spelled len value) ≡ len
spelled_length len value some few =
    elim (cases_lt len 9) [
      | inl short ↦ rw (spelled_few len value short, length-append, groups_length (len - 1) (value / 128)) (omega arith)
      | inr long ↦ let nine : len ≡ 9 = omega arith in rw nine refl
    ]

pub varint_bytes_length : (value : ℕ) → length (varint_bytes value) ≡ varint_length value
varint_bytes_length value = let is = varint_length_is value in spelled_length (varint_length value) value is.0 is.1

pub varint_bytes_some : (value : ℕ) → 0 < length (varint_bytes value)
varint_bytes_some value = let is = varint_length_is value in omega (arith, varint_bytes_length value, is.0)

pub varint_reads : (value : ℕ) (rest : List ℕ) → value < 2 ^ 64 → varint_of (varint_bytes value ++ rest) ≡ Some (value, length (varint_bytes value))
varint_reads value rest fits =
    let is = varint_length_is value in
    reads_back value (length (varint_bytes value)) (varint_bytes_length value)
    (rw (varint_bytes_length value) is.0) (rw (varint_bytes_length value) is.1) (rw (varint_bytes_length value) is.2) fits rest

abbrev part : {X : Type 0} → X → List ℕ → Option (X × List ℕ)
part x rest = Some (x, rest)

number_reads : (value : ℕ) (rest : List ℕ) → value < 2 ^ 64 → number_at (varint_bytes value ++ rest) ≡ part value rest
number_reads value rest fits =
    rw (varint_reads value rest fits) (ap (λ (xs : List ℕ). part value xs) (drop_at (varint_bytes value) rest (length (varint_bytes value)) refl))

long_reads : (n : ℕ) (rest : List ℕ) → n < 2 ^ 32 → long_at (big_bytes 4 n ++ rest) ≡ part n rest
unfolding u32_at
long_reads n rest fits =
    let enough : nat_lt (length (big_bytes 4 n ++ rest)) 4 ≡ false = le-ltb (length (big_bytes 4 n ++ rest)) 4 (omega arith) in
    rw enough (ap (λ (x : ℕ). part x rest) (big_number-reads_back 4 n rest (omega arith)))

left_reads : (kind : Kind) (c : Cell) (rest : List ℕ) → (is_leaf kind ≡ true → c.left ≡ 0) → c.left < 2 ^ 32 → left_at kind (left_bytes kind c ++ rest) ≡ part c.left rest
unfolding left_at left_bytes
left_reads TableLeaf c rest none fits = ap (λ (n : ℕ). part n rest) (sym (none refl))
left_reads TableInterior c rest none fits = long_reads c.left rest fits
left_reads IndexLeaf c rest none fits = ap (λ (n : ℕ). part n rest) (sym (none refl))
left_reads IndexInterior c rest none fits = long_reads c.left rest fits

payload_reads : (kind : Kind) (c : Cell) (rest : List ℕ) → (has_payload kind ≡ false → c.payload ≡ 0) → c.payload < 2 ^ 64
    → payload_at kind (payload_bytes kind c ++ rest) ≡ part c.payload rest
unfolding payload_at payload_bytes
payload_reads TableLeaf c rest none fits = number_reads c.payload rest fits
payload_reads TableInterior c rest none fits = ap (λ (n : ℕ). part n rest) (sym (none refl))
payload_reads IndexLeaf c rest none fits = number_reads c.payload rest fits
payload_reads IndexInterior c rest none fits = number_reads c.payload rest fits

signed_reads : (c : Cell) (rest : List ℕ) → FitsSigned w64 c.key
    → (number_at (varint_bytes (cast_unsigned w64 c.key) ++ rest) >>= λ (x : ℕ × List ℕ). part (cast_signed w64 x.0) x.1) ≡ part c.key rest
signed_reads c rest fits =
    let below : cast_unsigned w64 c.key < 2 ^ 64 = Fits-lt-pow (Fits-of_z fits) in
    rw (number_reads (cast_unsigned w64 c.key) rest below) (ap (λ (n : ℤ). part n rest) (to_z-of_z w64 c.key fits))

key_reads : (kind : Kind) (c : Cell) (rest : List ℕ) → (is_table kind ≡ false → c.key ≡ pos 0) → FitsSigned w64 c.key
    → key_at kind (key_bytes kind c ++ rest) ≡ part c.key rest
unfolding key_at key_bytes
key_reads TableLeaf c rest none fits = signed_reads c rest fits
key_reads TableInterior c rest none fits = signed_reads c rest fits
key_reads IndexLeaf c rest none fits = ap (λ (n : ℤ). part n rest) (sym (none refl))
key_reads IndexInterior c rest none fits = ap (λ (n : ℤ). part n rest) (sym (none refl))

bytes_read : (local rest : List ℕ) (n : ℕ) → length local ≡ n → bytes_at n (local ++ rest) ≡ part local rest
unfolding bytes_at
bytes_read local rest n is =
    let enough : nat_lt (length (local ++ rest)) n ≡ false = le-ltb (length (local ++ rest)) n (omega (arith, length-append local rest)) in
    rw (enough, take_at local rest n is, drop_at local rest n is) refl

chain_reads : (c : Cell) (rest : List ℕ) → (length c.local ≡ c.payload → c.chain ≡ 0) → c.chain < 2 ^ 32
    → chain_at (length c.local == c.payload) (chain_bytes c ++ rest) ≡ part c.chain rest
unfolding chain_at chain_bytes
chain_reads c rest none fits =
    elim (cases_eq (length c.local) c.payload) [
      | inl whole ↦ rw (eq-eqb (length c.local) c.payload whole) (ap (λ (n : ℕ). part n rest) (sym (none whole)))
      | inr cut ↦ rw (ne_eqb (length c.local) c.payload cut) (long_reads c.chain rest fits)
    ]

cell_parts : (kind : Kind) (c : Cell) (rest : List ℕ)
    → cell_bytes kind c ++ rest ≡ left_bytes kind c ++ (payload_bytes kind c ++ (key_bytes kind c ++ (c.local ++ (chain_bytes c ++ rest))))
cell_parts kind c rest = simp append_assoc

pub cell_reads : (kind : Kind) (usable : ℕ) (c : Cell) (rest : List ℕ) → IsWritableCell kind usable c → IsInRange c
    → cell_at kind usable (cell_bytes kind c ++ rest) ≡ Some (c, rest)
unfolding cell_at
cell_reads kind usable c rest w r =
    let behind_local = chain_bytes c ++ rest in
    let behind_key = c.local ++ behind_local in
    let behind_payload = key_bytes kind c ++ behind_key in
    let left = left_reads kind c (payload_bytes kind c ++ behind_payload) w.left r.left in
    let payload = payload_reads kind c behind_payload w.payload r.payload in
    let few : nat_lt 2147483647 c.payload ≡ false = le-ltb 2147483647 c.payload w.most in
    let key = key_reads kind c behind_key w.key r.key in
    let local = bytes_read c.local behind_local (length c.local) refl in
    let chain = chain_reads c rest w.chain r.chain in
    rw (cell_parts kind c rest, left, payload, few, key, ← w.local, local, chain) refl

pub cell_some : (kind : Kind) (c : Cell) → 0 < length (cell_bytes kind c)
unfolding left_bytes payload_bytes
cell_some TableLeaf c = let some = varint_bytes_some c.payload in rw (length-append (varint_bytes c.payload)) (omega arith)
cell_some TableInterior c = omega arith
cell_some IndexLeaf c = let some = varint_bytes_some c.payload in rw (length-append (varint_bytes c.payload)) (omega arith)
cell_some IndexInterior c = omega arith
