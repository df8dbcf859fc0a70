-- What reads as a value in its shortest spelling is that spelling.
use Rattle.std.proofs.Common.{◌≡◌, ◌≢◌, ℕ, suc, zero, ◌+◌, ◌-◌, ◌*◌, ◌/◌, ◌%◌, ◌^◌, ◌<◌, ◌≤◌, List, [], ◌∷◌, ◌++◌, length, take, drop, refl, sym, ◌∙◌, ap, subst, append_assoc, Option, Some, None, arith, inl, inr}
use Rattle.std.proofs.lemmas.Bool.{cases_lt, cases_eq, eq-eqb, ltb-false, ne_eqb}
use Rattle.std.proofs.lemmas.List.{drop_at, get_or-drop, length-take-le, take-append-drop, take_all}
use Rattle.std.specs.Int.{w64, cast_unsigned}
use Rattle.std.specs.Prelude.{◌==◌, ℤ, if◌then◌else◌, nat_lt, slice_index}
use Rattle.byteorder.specs.Endian.{big_bytes, big_number}
use Rattle.spe_model.specs.declared.page.Cell.{Cell}
use Rattle.spe_model.specs.declared.page.Kind.TheVariants.{TableLeaf}
use Rattle.spe_model.specs.Big.{u32_at}
use Rattle.spe_model.specs.Cell.{bytes_at, chain_at, long_at}
use Rattle.spe_model.specs.Kind.{local_of}
use Rattle.spe_model.specs.Varint.{varint_from, varint_of, varint_length}
use Rattle.spe_format.specs.Canonical.{IsInRange, IsWritableCell, chain_bytes, key_bytes, left_bytes, payload_bytes}
use Rattle.spe_format.specs.Packed.{IsSpelled}
use Rattle.spe_format.specs.Spelling.{AreBytes, groups, varint_bytes}
use Rattle.spe_format.proofs.WritableLemmas.{chain_none, first_of, part, unless_none}
use Rattle.spe_format.proofs.VarintLemmas.{byte_cases, found_is, reads_last, reads_more, reads_ninth, spelled, spelled_few}

ninth_is : (high b v : ℕ) → high * 256 + b ≡ v → b < 256 → groups 8 high ++ (b ∷ []) ≡ spelled 9 v
ninth_is high b v is byte =
    let most : v / 256 ≡ high = omega arith in
    let least : v % 256 ≡ b = omega arith in
    rw (most, least) refl

last_is : (read high b v : ℕ) → read < 8 → high * 128 + b ≡ v → b < 128 → groups read high ++ (b ∷ []) ≡ spelled (read + 1) v
last_is read high b v few is byte =
    let most : v / 128 ≡ high = omega arith in
    let least : v % 128 ≡ b = omega arith in
    let one : read + 1 - 1 ≡ read = omega arith in
    rw (spelled_few (read + 1) v (omega arith), one, most, least) refl

more_is : (read high b : ℕ) (bs : List ℕ) → 128 ≤ b → b < 256 → groups (read + 1) (high * 128 + (b - 128)) ++ bs ≡ groups read high ++ (b ∷ bs)
more_is read high b bs large byte =
    let next : read + 1 ≡ suc read = omega arith in
    let most : (high * 128 + (b - 128)) / 128 ≡ high = omega arith in
    let least : 128 + (high * 128 + (b - 128)) % 128 ≡ b = omega arith in
    rw (next, most, least, append_assoc) refl

-- how many bytes were read, and that they are the spelling in so many
abbrev IsReadFrom : (bytes : List ℕ) (read high v n : ℕ) → Type 0
IsReadFrom bytes read high v n = (read < n) × (groups read high ++ take (n - read) bytes ≡ spelled n v)

read_from : (bytes : List ℕ) (read high v n : ℕ) → AreBytes bytes → read ≤ 8 → varint_from read high bytes ≡ Some (v, n) → IsReadFrom bytes read high v n
read_from [] read high v n all few e = absurd cc
read_from (b ∷ bs) read high v n all few e =
    let byte : b < 256 = all 0 in
    byte_cases (IsReadFrom (b ∷ bs) read high v n) read b
    (λ ninth.
    let is = found_is _ _ _ _ (sym (reads_ninth read high b bs ninth) ∙ e) in
    let nine : n ≡ 9 = sym is.1 in
    (omega arith, rw (nine, ninth) (ninth_is high b v is.0 byte)))
    (λ other small.
    let is = found_is _ _ _ _ (sym (reads_last read high b bs other small) ∙ e) in
    let count : n - read ≡ 1 = omega arith in
    let end : n ≡ read + 1 = sym is.1 in
    (omega arith, rw count (last_is read high b v (omega arith) is.0 small ∙ ap (λ (k : ℕ). spelled k v) (sym end))))
    (λ other large.
    let rest = read_from bs (read + 1) (high * 128 + (b - 128)) v n (λ i. all (suc i)) (omega arith) (sym (reads_more read high b bs other large) ∙ e) in
    let count : n - read ≡ suc (n - (read + 1)) = omega (arith, rest.0) in
    (omega (arith, rest.0), rw count (sym (more_is read high b (take (n - (read + 1)) bs) large byte) ∙ rest.1)))

pub number_is : (bytes : List ℕ) (v n : ℕ) → AreBytes bytes → varint_of bytes ≡ Some (v, n) → n ≡ varint_length v → bytes ≡ varint_bytes v ++ drop n bytes
unfolding varint_of
number_is bytes v n all e short =
    let is = read_from bytes 0 0 v n all (omega arith) e in
    let all_of : n - 0 ≡ n = omega arith in
    let front : take n bytes ≡ spelled n v = rw all_of at is.1 in
    sym (take-append-drop n bytes) ∙ ap (λ (xs : List ℕ). xs ++ drop n bytes) (front ∙ ap (λ (k : ℕ). spelled k v) short)

pub bytes_behind : (n : ℕ) (bytes : List ℕ) → AreBytes bytes → AreBytes (drop n bytes)
bytes_behind n bytes all i = rw (get_or-drop n bytes i 0) (all (n + i))

abbrev rest_of : {X : Type 0} → Option (X × List ℕ) → List ℕ
rest_of None = []
rest_of (Some x) = x.1

pub behind_them : (front bytes rest : List ℕ) → AreBytes bytes → bytes ≡ front ++ rest → AreBytes rest
behind_them front bytes rest all is =
    subst AreBytes (ap (drop (length front)) is ∙ drop_at front rest (length front) refl) (bytes_behind (length front) bytes all)

local_is : (n : ℕ) (bytes local rest : List ℕ) → Some (local, rest) ≡ bytes_at n bytes → (bytes ≡ local ++ rest) × (length local ≡ n)
unfolding bytes_at
local_is n bytes local rest e =
    let enough = unless_none (nat_lt (length bytes) n) _ (local, rest) (sym e) in
    let first : take n bytes ≡ local = ap (λ (o : Option (List ℕ × List ℕ)). first_of [] o) enough.1 in
    let second : drop n bytes ≡ rest = ap (λ (o : Option (List ℕ × List ℕ)). rest_of o) enough.1 in
    (sym (take-append-drop n bytes) ∙ rw (first, second) refl, ap length (sym first) ∙ length-take-le n bytes (ltb-false (length bytes) n enough.0))

four_are : (bytes : List ℕ) → AreBytes bytes → 4 ≤ length bytes → big_bytes 4 (u32_at bytes 0) ++ drop 4 bytes ≡ bytes
unfolding u32_at
four_are [] all long = absurd (omega (arith, long))
four_are (a ∷ []) all long = absurd (omega (arith, long))
four_are (a ∷ b ∷ []) all long = absurd (omega (arith, long))
four_are (a ∷ b ∷ c ∷ []) all long = absurd (omega (arith, long))
four_are (a ∷ b ∷ c ∷ d ∷ rest) all long =
    let pa : a < 256 = all 0 in
    let pb : b < 256 = all 1 in
    let pc : c < 256 = all 2 in
    let pd : d < 256 = all 3 in
    let n = a * 16777216 + (b * 65536 + (c * 256 + (d * 1 + 0))) in
    let ea : n / 16777216 % 256 ≡ a = omega arith in
    let eb : n / 65536 % 256 ≡ b = omega arith in
    let ec : n / 256 % 256 ≡ c = omega arith in
    let ed : n % 256 ≡ d = omega arith in
    rw (ea, eb, ec, ed) refl

chain_is : (size payload chain : ℕ) (bytes rest local : List ℕ) → AreBytes bytes → length local ≡ size → Some (chain, rest) ≡ chain_at (size == payload) bytes
    → bytes ≡ (if length local == payload then [] else big_bytes 4 chain) ++ rest
unfolding chain_at
chain_is size payload chain bytes rest local all long e = elim (cases_eq size payload) [
  | inl whole ↦
      let f : Some (chain, rest) ≡ part 0 bytes = rw (eq-eqb size payload whole) at e in
      rw (long, eq-eqb size payload whole) (sym (ap (λ (o : Option (ℕ × List ℕ)). rest_of o) f))
  | inr cut ↦
      let f : Some (chain, rest) ≡ long_at bytes = rw (ne_eqb size payload cut) at e in
      let enough = unless_none (nat_lt (length bytes) 4) _ (chain, rest) (sym f) in
      let first : u32_at bytes 0 ≡ chain = ap (λ (o : Option (ℕ × List ℕ)). first_of 0 o) enough.1 in
      let second : drop 4 bytes ≡ rest = ap (λ (o : Option (ℕ × List ℕ)). rest_of o) enough.1 in
      rw (long, ne_eqb size payload cut, ← first, ← second) (sym (four_are bytes all (ltb-false (length bytes) 4 enough.0)))
]

pub cell_is : (usable size : ℕ) (bytes b1 b2 b3 rest local : List ℕ) (payload number chain : ℕ) (key : ℤ) → AreBytes bytes → payload ≤ 2147483647 → size ≡ local_of TableLeaf payload usable
    → cast_unsigned w64 key ≡ number → IsInRange (record { left = 0; key = key; payload = payload; local = local; chain = chain })
    → bytes ≡ varint_bytes payload ++ b1 → b1 ≡ varint_bytes number ++ b2 → Some (local, b3) ≡ bytes_at size b2 → Some (chain, rest) ≡ chain_at (size == payload) b3
    → IsSpelled usable bytes (record { left = 0; key = key; payload = payload; local = local; chain = chain }) rest
unfolding left_bytes payload_bytes key_bytes chain_bytes
cell_is usable size bytes b1 b2 b3 rest local payload number chain key all most size_is key_is range e1 e2 e3 e4 =
    let a1 = behind_them (varint_bytes payload) bytes b1 all e1 in
    let a2 = behind_them (varint_bytes number) b1 b2 a1 e2 in
    let is = local_is size b2 local b3 e3 in
    let a3 = behind_them local b2 b3 a2 is.0 in
    let tail = if length local == payload then [] else big_bytes 4 chain in
    let last : b3 ≡ tail ++ rest = chain_is size payload chain b3 rest local a3 is.1 e4 in
    let shape : varint_bytes payload ++ (varint_bytes number ++ (local ++ (tail ++ rest))) ≡ (varint_bytes payload ++ (varint_bytes number ++ (local ++ tail))) ++ rest = simp append_assoc in
    record {
      bytes_are = e1 ∙ ap (λ (xs : List ℕ). varint_bytes payload ++ xs) (e2 ∙ ap (λ (xs : List ℕ). varint_bytes number ++ xs) (is.0 ∙ ap (λ (xs : List ℕ). local ++ xs) last)) ∙ shape
          ∙ ap (λ (n : ℕ). (varint_bytes payload ++ (varint_bytes n ++ (local ++ tail))) ++ rest) (sym key_is);
      writable = record {
        left = λ _. refl;
        key = λ e. absurd cc;
        payload = λ e. absurd cc;
        most = most;
        local = is.1 ∙ size_is;
        chain = λ whole. chain_none size payload b3 rest chain (sym e4) (sym is.1 ∙ whole);
      };
      range = range;
    }

pub two_are : (bytes rest : List ℕ) (n : ℕ) → AreBytes bytes → 2 ≤ length bytes → n ≡ big_number 2 bytes → rest ≡ take (length bytes - 2) (drop 2 bytes) → bytes ≡ big_bytes 2 n ++ rest
two_are [] rest n all long is rest_is = absurd (omega (arith, long))
two_are (a ∷ []) rest n all long is rest_is = absurd (omega (arith, long))
two_are (a ∷ b ∷ bs) rest n all long is rest_is =
    let pa : a < 256 = all 0 in
    let pb : b < 256 = all 1 in
    let ea : n / 256 % 256 ≡ a = omega (arith, is) in
    let eb : n % 256 ≡ b = omega (arith, is) in
    let few : length bs ≤ length (a ∷ b ∷ bs) - 2 = omega arith in
    let same : rest ≡ bs = rest_is ∙ take_all (length (a ∷ b ∷ bs) - 2) bs few in
    rw (ea, eb, same) refl
