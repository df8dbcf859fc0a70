-- Varints: bounds on what is read, and what the shortest spelling reads as.
use Rattle.std.proofs.Common.{◌≡◌, ◌≢◌, ℕ, suc, zero, ◌+◌, ◌-◌, ◌*◌, ◌/◌, ◌%◌, ◌^◌, ◌<◌, ◌≤◌, List, [], ◌∷◌, ◌++◌, length, drop, refl, sym, ◌∙◌, ap, subst, append_assoc, length-append, Option, Some, None, arith, get_or, drop-cons, inl, inr}
use Rattle.std.proofs.Math.ListN.{set}
use Rattle.std.proofs.Math.Nat.{pow-le-pow_right, pow-suc}
use Rattle.std.proofs.lemmas.Bool.{cases_lt, cases_eq, ne_eqb}
use Rattle.std.proofs.lemmas.Bool.Decides.{nat_tests}
use Rattle.std.proofs.lemmas.List.{drop-set, set_at}
use Rattle.std.specs.Prelude.{◌==◌, if◌then◌else◌}
use Rattle.spe_model.specs.Varint.{varint_from, varint_of}
use Rattle.spe_format.specs.Spelling.{AreBytes, groups, varint_bytes}
use Rattle.spe_model.specs.Varint.{varint_length}

-- what fewer than nine bytes give fits 56 bits
pub fits_56 : (n v : ℕ) → v < 128 ^ n → n ≤ 8 → v < 2 ^ 56
fits_56 n v below few =
    let cap : 128 ^ n ≤ 128 ^ 8 = pow-le-pow_right (omega arith) few in
    omega arith

pub groups_length : (n v : ℕ) → length (groups n v) ≡ n
groups_length zero v = refl
groups_length (suc n) v = rw (length-append, groups_length n (v / 128)) (omega arith)

-- a turn of the loop that writes groups
pub groups_turn : (at m rest b : ℕ) (out : List ℕ) → at ≡ suc m → m < length out → b ≡ 128 + rest % 128
    → groups m (rest / 128) ++ drop m (set out m b) ≡ groups at rest ++ drop at out
groups_turn at m rest b out e within is =
    let next : m + 1 ≡ suc m = omega arith in
    rw (e, drop-set out m b within, next, is, append_assoc) refl

pub groups_end : (at rest : ℕ) (out whole : List ℕ) → at ≡ 0 → groups at rest ++ drop at out ≡ whole → out ≡ whole
groups_end at rest out whole e same = rw e at same

-- a byte after them
pub groups_last : (n v b : ℕ) (old : List ℕ) → n < length old → set (groups n v ++ drop n old) n b ≡ (groups n v ++ b ∷ []) ++ drop (n + 1) old
groups_last n v b old within =
    let next : n + 1 ≡ suc n = omega arith in
    rw (drop-cons old n 0, append_assoc, next) (set_at (groups n v) (get_or old n 0) (drop (suc n) old) b n (groups_length n v))

abbrev found : ℕ → ℕ → Option (ℕ × ℕ)
found v n = Some (v, n)

found_same : (a m v n : ℕ) → a ≡ v → m ≡ n → found a m ≡ found v n
found_same a m v n e f = rw (e, f) refl

abbrev value_in : Option (ℕ × ℕ) → ℕ
value_in None = 0
value_in (Some x) = x.0

abbrev length_in : Option (ℕ × ℕ) → ℕ
length_in None = 0
length_in (Some x) = x.1

pub found_is : (a m v n : ℕ) → found a m ≡ found v n → (a ≡ v) × (m ≡ n)
found_is a m v n e = (ap (λ (o : Option (ℕ × ℕ)). value_in o) e, ap (λ (o : Option (ℕ × ℕ)). length_in o) e)

-- how a byte is read
pub reads_ninth : (read high b : ℕ) (bs : List ℕ) → read ≡ 8 → varint_from read high (b ∷ bs) ≡ Some (high * 256 + b, 9)
reads_ninth read high b bs e = grind (arith, nat_tests)

pub reads_last : (read high b : ℕ) (bs : List ℕ) → read ≢ 8 → b < 128 → varint_from read high (b ∷ bs) ≡ Some (high * 128 + b, read + 1)
reads_last read high b bs e l = grind (arith, nat_tests)

pub reads_more : (read high b : ℕ) (bs : List ℕ) → read ≢ 8 → 128 ≤ b → varint_from read high (b ∷ bs) ≡ varint_from (read + 1) (high * 128 + (b - 128)) bs
reads_more read high b bs e l = grind (arith, nat_tests)

reads_more_as : (read high b next v : ℕ) (bs : List ℕ) → read ≢ 8 → 128 ≤ b → next ≡ read + 1 → high * 128 + (b - 128) ≡ v → varint_from read high (b ∷ bs) ≡ varint_from next v bs
reads_more_as read high b next v bs e l f g = reads_more read high b bs e l ∙ rw (f, g) refl

groups_read : (n v : ℕ) (xs : List ℕ) → v < 128 ^ n → n ≤ 8 → varint_from 0 0 (groups n v ++ xs) ≡ varint_from n v xs
groups_read zero v xs below few = let none : v ≡ 0 = omega arith in rw none refl
groups_read (suc n) v xs below few =
    let cap : v < 128 ^ n * 128 = rw pow-suc at below in
    let high : v / 128 < 128 ^ n = omega arith in
    let value : v / 128 * 128 + (128 + v % 128 - 128) ≡ v = omega arith in
    rw append_assoc (groups_read n (v / 128) ((128 + v % 128) ∷ xs) high (omega arith)
    ∙ reads_more_as n (v / 128) (128 + v % 128) (suc n) v xs (omega arith) (omega arith) (omega arith) value)

-- the spelling in so many bytes
abbrev pub spelled : ℕ → ℕ → List ℕ
spelled len value = if len == 9 then groups 8 (value / 256) ++ (value % 256) ∷ [] else groups (len - 1) (value / 128) ++ (value % 128) ∷ []

pub spelled_few : (len value : ℕ) → len < 9 → spelled len value ≡ groups (len - 1) (value / 128) ++ (value % 128) ∷ []
spelled_few len value few = rw (ne_eqb len 9 (omega arith)) refl

read_nine : (value : ℕ) (rest : List ℕ) → value < 2 ^ 64 → varint_of (spelled 9 value ++ rest) ≡ Some (value, 9)
unfolding varint_of
read_nine value rest fits =
    let whole : value / 256 * 256 + value % 256 ≡ value = omega arith in
    groups_read 8 (value / 256) ((value % 256) ∷ rest) (omega arith) (omega arith)
    ∙ reads_ninth 8 (value / 256) (value % 256) rest refl ∙ ap (λ (x : ℕ). found x 9) whole

read_few : (len value : ℕ) (rest : List ℕ) → 1 ≤ len → len < 9 → value < 128 ^ len → varint_of (spelled len value ++ rest) ≡ Some (value, len)
unfolding varint_of
read_few len value rest some few fits =
    let whole : value / 128 * 128 + value % 128 ≡ value = omega arith in
    let long : len - 1 + 1 ≡ len = omega arith in
    let count : suc (len - 1) ≡ len = omega arith in
    let cap : value < 128 ^ (len - 1) * 128 = rw pow-suc at (rw (← count) at fits) in
    rw (spelled_few len value few, append_assoc)
    (groups_read (len - 1) (value / 128) ((value % 128) ∷ rest) (omega arith) (omega arith)
    ∙ reads_last (len - 1) (value / 128) (value % 128) rest (omega arith) (omega arith) ∙ found_same _ _ _ _ whole long)

-- the shortest spelling reads as its value
pub reads_back : (value len : ℕ) → len ≡ varint_length value → 1 ≤ len → len ≤ 9 → (len < 9 → value < 128 ^ len) → value < 2 ^ 64
    → (rest : List ℕ) → varint_of (varint_bytes value ++ rest) ≡ Some (value, len)
reads_back value len is some few fits cap rest =
    elim (cases_lt len 9) [
      | inl short ↦ subst (λ (n : ℕ). varint_of (spelled n value ++ rest) ≡ Some (value, len)) is (read_few len value rest some short (fits short))
      | inr long ↦
          let nine : len ≡ 9 = omega arith in
          subst (λ (n : ℕ). varint_of (spelled n value ++ rest) ≡ Some (value, len)) is (rw nine (read_nine value rest cap))
    ]

pub byte_cases : (P : Type 0) (read b : ℕ) → (read ≡ 8 → P) → (read ≢ 8 → b < 128 → P) → (read ≢ 8 → 128 ≤ b → P) → P
byte_cases P read b ninth last more =
    elim (cases_eq read 8) [ inl e ↦ ninth e | inr e ↦ elim (cases_lt b 128) [ inl l ↦ last e l | inr l ↦ more e l ] ]

-- what fewer than nine bytes read as is small
abbrev IsSmall : ℕ → ℕ → ℕ → Type 0
IsSmall read v n = (read < n) × (v < 128 ^ n)

small_from : (bytes : List ℕ) (read high v n : ℕ) → AreBytes bytes → high < 128 ^ read → n ≤ 8 → varint_from read high bytes ≡ Some (v, n) → IsSmall read v n
small_from [] read high v n all below few e = absurd cc
small_from (b ∷ bs) read high v n all below few e =
    let byte : b < 256 = all 0 in
    let power : 128 ^ (suc read) ≡ 128 ^ read * 128 = pow-suc 128 read in
    let next : suc read ≡ read + 1 = omega arith in
    byte_cases (IsSmall read v n) read b
    (λ ninth. let is = found_is _ _ _ _ (sym (reads_ninth read high b bs ninth) ∙ e) in absurd (omega arith))
    (λ other small.
    let is = found_is _ _ _ _ (sym (reads_last read high b bs other small) ∙ e) in
    let count : n ≡ suc read = omega arith in
    (omega arith, rw (count, power) (omega arith)))
    (λ other large.
    let rest = small_from bs (read + 1) (high * 128 + (b - 128)) v n (λ i. all (suc i)) (rw (← next, power) (omega arith)) few
    (sym (reads_more read high b bs other large) ∙ e) in
    (omega arith, rest.1))

-- no shorter spelling reads as the value
pub shortest : (value len : ℕ) → len ≤ 9 → (1 < len → 128 ^ (len - 1) ≤ value)
    → (bytes : List ℕ) (n : ℕ) → AreBytes bytes → varint_of bytes ≡ Some (value, n) → len ≤ n
unfolding varint_of
shortest value len few least bytes n all e =
    elim (cases_lt n 9) [
      | inl short ↦
          let small = small_from bytes 0 0 value n all (omega arith) (omega arith) e in
          elim (cases_lt n len) [
            | inl less ↦
                let cap : 128 ^ n ≤ 128 ^ (len - 1) = pow-le-pow_right (omega arith) (omega arith) in
                let low : 128 ^ (len - 1) ≤ value = least (omega (arith, small.0)) in
                absurd (omega (arith, small.1))
            | inr same ↦ same
          ]
      | inr long ↦ omega arith
    ]

-- what is written in fewer than nine bytes
pub spelled_written : (len value : ℕ) (out old : List ℕ) → len ≡ varint_length value → 1 ≤ len → len < 9 → length old ≡ 9
    → out ≡ groups (len - 1) (value / 128) ++ drop (len - 1) old → set out (len - 1) (value % 128) ≡ varint_bytes value ++ drop len old
spelled_written len value out old is some few long e =
    let next : len - 1 + 1 ≡ len = omega arith in
    subst (λ (n : ℕ). set out (len - 1) (value % 128) ≡ spelled n value ++ drop len old) is
    (rw (spelled_few len value few, e, groups_last (len - 1) (value / 128) (value % 128) old (omega arith), next) refl)
