-- A cell that was read takes no more bytes in its written form.
use Rattle.std.proofs.Common.{◌≡◌, ℕ, zero, suc, ℤ, pos, ◌+◌, ◌-◌, ◌*◌, ◌^◌, ◌<◌, ◌≤◌, ◌∙◌, List, [], ◌∷◌, ◌++◌, length, take, drop, Bool, true, false, Option, Some, None, refl, sym, ap, subst, arith, inl, inr, length-drop}
use Rattle.std.specs.Prelude.{◌==◌, if◌then◌else◌, nat_lt, unwrap_or}
use Rattle.std.specs.List.{find}
use Rattle.std.specs.Int.{w64, cast_signed, cast_unsigned}
use Rattle.std.proofs.Math.Nat.{pow-suc}
use Rattle.std.proofs.Math.Pow.{pow_mono}
use Rattle.std.proofs.lemmas.Bool.{cases_Bool, cases_lt, eqb-true, ltb-false, ltb-true}
use Rattle.std.proofs.lemmas.Int.{of_z-to_z}
use Rattle.std.proofs.lemmas.List.{length-take-le}
use Rattle.byteorder.specs.Endian.{big_bytes}
use Rattle.spe_model.specs.declared.page.Cell.{Cell}
use Rattle.spe_model.specs.declared.page.Kind.{Kind}
use Rattle.spe_model.specs.Cell.{◌>>=◌, bytes_at, cell_at, chain_at, key_at, left_at, long_at, number_at, payload_at, size_of}
use Rattle.spe_model.specs.Kind.{has_payload, is_leaf, is_table}
use Rattle.spe_model.specs.Varint.{varint_from, varint_length, varint_of}
use Rattle.spe_format.specs.Canonical.{cell_bytes, chain_bytes, key_bytes, left_bytes, payload_bytes}
use Rattle.spe_format.specs.Spelling.{AreBytes, varint_bytes}
use Rattle.spe_format.proofs.VarintLemmas.{shortest}
use Rattle.spe_cut.proofs.SizeLemmas.{cell_parts, varint_long, varint_short}

-- each is a byte
abbrev pub AreSmall : List ℕ → Type 0
AreSmall [] = Unit {0}
AreSmall (b ∷ bs) = (b < 256) × AreSmall bs

pub small_of : (bytes : List ℕ) → AreBytes bytes → AreSmall bytes
small_of [] all = tt
small_of (b ∷ bs) all = (all 0, small_of bs (λ i. all (suc i)))

bytes_of : (bytes : List ℕ) → AreSmall bytes → AreBytes bytes
bytes_of [] small i = omega arith
bytes_of (b ∷ bs) small zero = small.0
bytes_of (b ∷ bs) small (suc i) = bytes_of bs small.1 i

pub small_drop : (n : ℕ) (bytes : List ℕ) → AreSmall bytes → AreSmall (drop n bytes)
small_drop zero bytes small = small
small_drop (suc n) [] small = tt
small_drop (suc n) (b ∷ bs) small = small_drop n bs small.1

pub small_take : (n : ℕ) (bytes : List ℕ) → AreSmall bytes → AreSmall (take n bytes)
small_take zero bytes small = tt
small_take (suc n) [] small = tt
small_take (suc n) (b ∷ bs) small = (small.0, small_take n bs small.1)

-- how long the shortest spelling is, as its value says
record IsLength (value len : ℕ) : Type 0 where
  some : 1 ≤ len
  fits : len < 9 → value < 2 ^ (7 * len)
  least : 1 < len → 2 ^ (7 * (len - 1)) ≤ value

abbrev AreNext : ℕ → List ℕ → Type 0
AreNext k [] = k ≡ 9
AreNext k (x ∷ xs) = (x ≡ k) × AreNext (k + 1) xs

length_from : (value k : ℕ) (xs : List ℕ) → AreNext k xs → 1 ≤ k → (1 < k → 2 ^ (7 * (k - 1)) ≤ value)
    → IsLength value (unwrap_or (find (λ n. nat_lt value (2 ^ (7 * n))) xs) 9)
length_from value k [] next some low = record {
  some = omega arith;
  fits = λ less. absurd (omega (arith, less));
  least = λ more. subst (λ (n : ℕ). 2 ^ (7 * (n - 1)) ≤ value) next (low (omega (arith, next)));
}
length_from value k (x ∷ xs) next some low = elim (cases_Bool (nat_lt value (2 ^ (7 * x)))) [
  | inl fits ↦ rw fits (record {
    some = let is = next.0 in omega (arith, is, some);
    fits = λ less. ltb-true value (2 ^ (7 * x)) fits;
    least = λ more. subst (λ (n : ℕ). 2 ^ (7 * (n - 1)) ≤ value) (sym next.0) (low (let is = next.0 in omega (arith, is, more)));
  })
  | inr over ↦ rw over (length_from value (k + 1) xs next.1 (omega (arith, some)) (λ more.
      let above : 2 ^ (7 * x) ≤ value = ltb-false value (2 ^ (7 * x)) over in
      let same : k + 1 - 1 ≡ x = let is = next.0 in omega (arith, is) in
      rw same above))
]

length_is : (value : ℕ) → IsLength value (varint_length value)
length_is value = length_from value 1 (1 ∷ 2 ∷ 3 ∷ 4 ∷ 5 ∷ 6 ∷ 7 ∷ 8 ∷ [])
    (refl, (refl, (refl, (refl, (refl, (refl, (refl, (refl, refl)))))))) (omega arith) (λ more. absurd (omega (arith, more)))

seven_bits : (n : ℕ) → 128 ^ n ≡ 2 ^ (7 * n)
seven_bits zero = refl
seven_bits (suc n) =
    let rest = seven_bits n in
    let split : 7 * suc n ≡ suc (suc (suc (suc (suc (suc (suc (7 * n))))))) = omega arith in
    pow-suc 128 n ∙ rw (split, pow-suc 2 (suc (suc (suc (suc (suc (suc (7 * n))))))), pow-suc 2 (suc (suc (suc (suc (suc (7 * n)))))), pow-suc 2 (suc (suc (suc (suc (7 * n))))), pow-suc 2 (suc (suc (suc (7 * n)))), pow-suc 2 (suc (suc (7 * n))), pow-suc 2 (suc (7 * n)), pow-suc 2 (7 * n)) (omega (arith, rest))

abbrev second_of : Option (ℕ × ℕ) → ℕ
second_of None = 0
second_of (Some x) = x.1

abbrev two : ℕ → ℕ → Option (ℕ × ℕ)
two v n = Some (v, n)

counted : (bytes : List ℕ) (read high v n : ℕ) → varint_from read high bytes ≡ two v n → n ≤ read + length bytes
counted [] read high v n e = absurd cc
counted (b ∷ bs) read high v n e = elim (cases_Bool (read == 8)) [
  | inl ninth ↦ (let is : 9 ≡ n = ap second_of (rw ninth at e) in let eight = eqb-true read 8 ninth in omega (arith, is, eight))
  | inr other ↦ elim (cases_Bool (nat_lt b 128)) [
    | inl small ↦ (let is : read + 1 ≡ n = ap second_of (rw (other, small) at e) in omega (arith, is))
    | inr large ↦ (let rest = counted bs (read + 1) (high * 128 + (b - 128)) v n (rw (other, large) at e) in omega (arith, rest))
  ]
]

varint_counted : (bytes : List ℕ) (v n : ℕ) → varint_of bytes ≡ two v n → n ≤ length bytes
unfolding varint_of
varint_counted bytes v n e = let few = counted bytes 0 0 v n e in omega (arith, few)

-- the written form of a number that was read, also of one that was read as a rowid
record IsShort (v n : ℕ) : Type 0 where
  plain : length (varint_bytes v) ≤ n
  signed : length (varint_bytes (cast_unsigned w64 (cast_signed w64 v))) ≤ n

varint_is_short : (bytes : List ℕ) (v n : ℕ) → AreSmall bytes → varint_of bytes ≡ two v n → IsShort v n
varint_is_short bytes v n small e =
    let len = length_is v in
    let long = varint_long v len.some in
    let few = varint_short v in
    let order : varint_length v ≤ n = shortest v (varint_length v) (omega (arith, few, long)) (λ more. rw (seven_bits (varint_length v - 1)) (len.least more)) bytes n (bytes_of bytes small) e in
    record {
      plain = omega (arith, long, order);
      signed = elim (cases_lt (varint_length v) 9) [
        | inl less ↦ (
            let below : v < 2 ^ (7 * varint_length v) = len.fits less in
            let cap : 2 ^ (7 * varint_length v) ≤ 2 ^ 63 = pow_mono {i = 7 * varint_length v} {j = 63} (omega (arith, less)) in
            let fits : v < 2 ^ 64 = omega (arith, below, cap) in
            rw (of_z-to_z w64 v fits) (omega (arith, long, order)))
        | inr most ↦ (let all = varint_short (cast_unsigned w64 (cast_signed w64 v)) in omega (arith, all, most, order))
      ];
    }

pub bind_some : {A B : Type 0} (o : Option A) (f : A → Option B) (y : B) → (o >>= f) ≡ Some y → (x : A) × (o ≡ Some x) × (f x ≡ Some y)
bind_some None f y e = absurd cc
bind_some (Some x) f y e = (x, refl, e)

pub unless_none : {Y : Type 0} (b : Bool) (o : Option Y) (y : Y) → (if b then None else o) ≡ Some y → (b ≡ false) × (o ≡ Some y)
unless_none true o y e = absurd cc
unless_none false o y e = (refl, e)

abbrev part : {X : Type 0} → X → List ℕ → Option (X × List ℕ)
part x rest = Some (x, rest)

abbrev rest_in : {X : Type 0} → Option (X × List ℕ) → List ℕ
rest_in None = []
rest_in (Some x) = x.1

abbrev value_in : {X : Type 0} → X → Option (X × List ℕ) → X
value_in other None = other
value_in other (Some x) = x.0

-- what was read is the front of some bytes, and what is written for it is no longer
record IsRead (bytes written rest : List ℕ) : Type 0 where
  short : length written + length rest ≤ length bytes
  small : AreSmall rest

nothing_read : (bytes rest : List ℕ) → AreSmall bytes → bytes ≡ rest → IsRead bytes [] rest
nothing_read bytes rest small same = record { short = let long = ap length same in omega (arith, long); small = subst AreSmall same small }

long_read : (bytes rest : List ℕ) (v w : ℕ) → AreSmall bytes → long_at bytes ≡ part v rest → IsRead bytes (big_bytes 4 w) rest
long_read bytes rest v w small e =
    let enough = unless_none (nat_lt (length bytes) 4) _ (v, rest) e in
    let order = ltb-false (length bytes) 4 enough.0 in
    let same : drop 4 bytes ≡ rest = ap (λ (o : Option (ℕ × List ℕ)). rest_in o) enough.1 in
    let left = length-drop 4 bytes in
    let long : length (drop 4 bytes) ≡ length rest = ap length same in
    record { short = omega (arith, order, left, long); small = subst AreSmall same (small_drop 4 bytes small) }

record NumberRead (bytes : List ℕ) (v : ℕ) (rest : List ℕ) : Type 0 where
  plain : IsRead bytes (varint_bytes v) rest
  signed : IsRead bytes (varint_bytes (cast_unsigned w64 (cast_signed w64 v))) rest

number_read : (bytes rest : List ℕ) (v : ℕ) → AreSmall bytes → number_at bytes ≡ part v rest → NumberRead bytes v rest
number_read bytes rest v small e =
    let found = bind_some (varint_of bytes) _ (v, rest) e in
    let short = varint_is_short bytes found.0.0 found.0.1 small found.1 in
    let few = varint_counted bytes found.0.0 found.0.1 found.1 in
    let same : drop found.0.1 bytes ≡ rest = ap (λ (o : Option (ℕ × List ℕ)). rest_in o) found.2 in
    let value : found.0.0 ≡ v = ap (λ (o : Option (ℕ × List ℕ)). value_in 0 o) found.2 in
    let left = length-drop found.0.1 bytes in
    let long : length (drop found.0.1 bytes) ≡ length rest = ap length same in
    let plain = short.plain in
    let signed = short.signed in
    subst (λ (n : ℕ). NumberRead bytes n rest) value (record {
      plain = record { short = omega (arith, plain, few, left, long); small = subst AreSmall same (small_drop found.0.1 bytes small) };
      signed = record { short = omega (arith, signed, few, left, long); small = subst AreSmall same (small_drop found.0.1 bytes small) };
    })

left_read : (leaf : Bool) (bytes rest : List ℕ) (n w : ℕ) → AreSmall bytes → (if leaf then Some (0, bytes) else long_at bytes) ≡ part n rest
    → IsRead bytes (if leaf then [] else big_bytes 4 w) rest
left_read true bytes rest n w small e = nothing_read bytes rest small (ap (λ (o : Option (ℕ × List ℕ)). rest_in o) e)
left_read false bytes rest n w small e = long_read bytes rest n w small e

payload_read : (has : Bool) (bytes rest : List ℕ) (n : ℕ) → AreSmall bytes → (if has then number_at bytes else Some (0, bytes)) ≡ part n rest
    → IsRead bytes (if has then varint_bytes n else []) rest
payload_read true bytes rest n small e = (number_read bytes rest n small e).plain
payload_read false bytes rest n small e = nothing_read bytes rest small (ap (λ (o : Option (ℕ × List ℕ)). rest_in o) e)

key_read : (table : Bool) (bytes rest : List ℕ) (k : ℤ) → AreSmall bytes
    → (if table then (number_at bytes >>= λ (x : ℕ × List ℕ). part (cast_signed w64 x.0) x.1) else Some (pos 0, bytes)) ≡ part k rest
    → IsRead bytes (if table then varint_bytes (cast_unsigned w64 k) else []) rest
key_read true bytes rest k small e =
    let found = bind_some (number_at bytes) _ (k, rest) e in
    let same : found.0.1 ≡ rest = ap (λ (o : Option (ℤ × List ℕ)). rest_in o) found.2 in
    let value : cast_signed w64 found.0.0 ≡ k = ap (λ (o : Option (ℤ × List ℕ)). value_in (pos 0) o) found.2 in
    let read = (number_read bytes found.0.1 found.0.0 small found.1).signed in
    subst (λ (z : ℤ). IsRead bytes (varint_bytes (cast_unsigned w64 z)) rest) value
    (subst (λ (xs : List ℕ). IsRead bytes (varint_bytes (cast_unsigned w64 (cast_signed w64 found.0.0))) xs) same read)
key_read false bytes rest k small e = nothing_read bytes rest small (ap (λ (o : Option (ℤ × List ℕ)). rest_in o) e)

record LocalRead (count : ℕ) (bytes local rest : List ℕ) : Type 0 where
  read : IsRead bytes local rest
  long : length local ≡ count

local_read : (count : ℕ) (bytes local rest : List ℕ) → AreSmall bytes → bytes_at count bytes ≡ part local rest → LocalRead count bytes local rest
unfolding bytes_at
local_read count bytes local rest small e =
    let enough = unless_none (nat_lt (length bytes) count) _ (local, rest) e in
    let order = ltb-false (length bytes) count enough.0 in
    let front : take count bytes ≡ local = ap (λ (o : Option (List ℕ × List ℕ)). value_in [] o) enough.1 in
    let same : drop count bytes ≡ rest = ap (λ (o : Option (List ℕ × List ℕ)). rest_in o) enough.1 in
    let left = length-drop count bytes in
    let long : length local ≡ count = ap length (sym front) ∙ length-take-le count bytes order in
    let behind : length (drop count bytes) ≡ length rest = ap length same in
    record { read = record { short = omega (arith, order, left, long, behind); small = subst AreSmall same (small_drop count bytes small) }; long = long }

chain_read : (whole : Bool) (bytes rest : List ℕ) (n w : ℕ) → AreSmall bytes → (if whole then Some (0, bytes) else long_at bytes) ≡ part n rest
    → IsRead bytes (if whole then [] else big_bytes 4 w) rest
chain_read whole bytes rest n w small e = left_read whole bytes rest n w small e

-- a cell is written in no more bytes than it was read from
pub cell_read : (kind : Kind) (usable : ℕ) (bytes rest : List ℕ) (c : Cell) → AreSmall bytes → cell_at kind usable bytes ≡ Some (c, rest)
    → length (cell_bytes kind c) + length rest ≤ length bytes
unfolding cell_at left_at payload_at key_at chain_at left_bytes payload_bytes key_bytes chain_bytes
cell_read kind usable bytes rest c small e =
    let left = bind_some (left_at kind bytes) _ (c, rest) e in
    let payload = bind_some (payload_at kind left.0.1) _ (c, rest) left.2 in
    let few = unless_none (nat_lt 2147483647 payload.0.0) _ (c, rest) payload.2 in
    let key = bind_some (key_at kind payload.0.1) _ (c, rest) few.1 in
    let size = size_of kind payload.0.0 usable in
    let local = bind_some (bytes_at size key.0.1) _ (c, rest) key.2 in
    let chain = bind_some (chain_at (size == payload.0.0) local.0.1) _ (c, rest) local.2 in
    let cell : Cell = record { left = left.0.0; key = key.0.0; payload = payload.0.0; local = local.0.0; chain = chain.0.0 } in
    let same : cell ≡ c = ap (λ (o : Option (Cell × List ℕ)). value_in c o) chain.2 in
    let end : chain.0.1 ≡ rest = ap (λ (o : Option (Cell × List ℕ)). rest_in o) chain.2 in
    let one = left_read (is_leaf kind) bytes left.0.1 left.0.0 left.0.0 small left.1 in
    let two' = payload_read (has_payload kind) left.0.1 payload.0.1 payload.0.0 one.small payload.1 in
    let three = key_read (is_table kind) payload.0.1 key.0.1 key.0.0 two'.small key.1 in
    let four = local_read size key.0.1 local.0.0 local.0.1 three.small local.1 in
    let five = chain_read (size == payload.0.0) local.0.1 chain.0.1 chain.0.0 chain.0.0 four.read.small chain.1 in
    let tail : IsRead local.0.1 (chain_bytes cell) chain.0.1 =
    subst (λ (n : ℕ). IsRead local.0.1 (if n == payload.0.0 then [] else big_bytes 4 chain.0.0) chain.0.1) (sym four.long) five in
    let parts = cell_parts (left_bytes kind cell) (payload_bytes kind cell) (key_bytes kind cell) local.0.0 (chain_bytes cell) in
    let s1 = one.short in let s2 = two'.short in let s3 = three.short in let s4 = four.read.short in let s5 = tail.short in
    let last : length chain.0.1 ≡ length rest = ap length end in
    subst (λ (d : Cell). length (cell_bytes kind d) + length rest ≤ length bytes) same (sum_up (left_bytes kind cell) (payload_bytes kind cell) (key_bytes kind cell) local.0.0 (chain_bytes cell)
    (length left.0.1) (length payload.0.1) (length key.0.1) (length local.0.1) (length chain.0.1) (length rest) (length bytes) parts s1 s2 s3 s4 s5 last)
  where
    sum_up : (a b c d e : List ℕ) (l1 l2 l3 l4 l5 r all : ℕ) → length (a ++ (b ++ (c ++ (d ++ e)))) ≡ length a + (length b + (length c + (length d + length e)))
        → length a + l1 ≤ all → length b + l2 ≤ l1 → length c + l3 ≤ l2 → length d + l4 ≤ l3 → length e + l5 ≤ l4 → l5 ≡ r → length (a ++ (b ++ (c ++ (d ++ e)))) + r ≤ all
    sum_up a b c d e l1 l2 l3 l4 l5 r all is s1 s2 s3 s4 s5 last = omega (arith, is, s1, s2, s3, s4, s5, last)
