-- How many bytes a cell takes.
use Rattle.std.proofs.Common.{◌≡◌, ℕ, ◌+◌, ◌-◌, ◌*◌, ◌/◌, ◌%◌, ◌≤◌, ◌∙◌, List, [], ◌∷◌, ◌++◌, length, Bool, refl, sym, ap, arith, inl, inr, length-append}
use Rattle.std.specs.Prelude.{◌==◌, ◌^◌, nat_le, nat_lt, if◌then◌else◌, unwrap_or}
use Rattle.std.specs.List.{find}
use Rattle.std.specs.Int.{w64, cast_unsigned}
use Rattle.std.proofs.lemmas.Bool.{cases_Bool, eqb-true, leb-true}
use Rattle.spe_model.specs.declared.page.Cell.{Cell}
use Rattle.spe_model.specs.declared.page.Kind.TheVariants.{TableInterior, TableLeaf}
use Rattle.spe_model.specs.Kind.{least_local, local_of}
use Rattle.spe_model.specs.Varint.{varint_length}
use Rattle.spe_format.specs.Canonical.{IsWritableCell, cell_bytes, chain_bytes, key_bytes, left_bytes, payload_bytes}
use Rattle.spe_format.specs.Spelling.{groups, varint_bytes}
use Rattle.spe_format.proofs.VarintLemmas.{groups_length}

abbrev AreFew : List ℕ → Type 0
AreFew [] = Unit {0}
AreFew (x ∷ xs) = (x ≤ 9) × AreFew xs

few_found : (p : ℕ → Bool) (xs : List ℕ) → AreFew xs → unwrap_or (find p xs) 9 ≤ 9
few_found p [] few = omega arith
few_found p (x ∷ xs) few = elim (cases_Bool (p x)) [ inl this ↦ rw this few.0 | inr other ↦ rw other (few_found p xs few.1) ]

few_bytes : (value : ℕ) → varint_length value ≤ 9
few_bytes value = few_found (λ n. nat_lt value (2 ^ (7 * n))) (1 ∷ 2 ∷ 3 ∷ 4 ∷ 5 ∷ 6 ∷ 7 ∷ 8 ∷ []) (omega arith, (omega arith, (omega arith, (omega arith, (omega arith, (omega arith, (omega arith, (omega arith, tt))))))))

groups_long : (n high low : ℕ) → length (groups n high ++ low ∷ []) ≡ n + 1
groups_long n high low = length-append (groups n high) (low ∷ []) ∙ ap (λ (k : ℕ). k + 1) (groups_length n high)

spelled_short : (len value : ℕ) → len ≤ 9 → length (if len == 9 then groups 8 (value / 256) ++ (value % 256) ∷ [] else groups (len - 1) (value / 128) ++ (value % 128) ∷ []) ≤ 9
spelled_short len value few = elim (cases_Bool (len == 9)) [
  | inl nine ↦ rw nine (let long = groups_long 8 (value / 256) (value % 256) in omega (arith, long))
  | inr other ↦ rw other (let long = groups_long (len - 1) (value / 128) (value % 128) in omega (arith, long, few))
]

spelled_long : (len value : ℕ) → 1 ≤ len → length (if len == 9 then groups 8 (value / 256) ++ (value % 256) ∷ [] else groups (len - 1) (value / 128) ++ (value % 128) ∷ []) ≡ len
spelled_long len value some = elim (cases_Bool (len == 9)) [
  | inl nine ↦ rw nine (let long = groups_long 8 (value / 256) (value % 256) in let is = eqb-true len 9 nine in omega (arith, long, is))
  | inr other ↦ rw other (let long = groups_long (len - 1) (value / 128) (value % 128) in omega (arith, long, some))
]

pub varint_long : (value : ℕ) → 1 ≤ varint_length value → length (varint_bytes value) ≡ varint_length value
varint_long value some = spelled_long (varint_length value) value some

pub varint_short : (value : ℕ) → length (varint_bytes value) ≤ 9
varint_short value = spelled_short (varint_length value) value (few_bytes value)

chain_short : (c : Cell) → length (chain_bytes c) ≤ 4
unfolding chain_bytes
chain_short c = elim (cases_Bool (length c.local == c.payload)) [ inl whole ↦ rw whole (omega arith) | inr other ↦ rw other (omega arith) ]

no_chain : (c : Cell) → length c.local ≡ 0 → c.payload ≡ 0 → length (chain_bytes c) ≡ 0
unfolding chain_bytes
no_chain c local payload = rw (local, payload) refl

pub cell_parts : (one two three four five : List ℕ)
    → length (one ++ (two ++ (three ++ (four ++ five)))) ≡ length one + (length two + (length three + (length four + length five)))
cell_parts one two three four five = rw (length-append one, length-append two, length-append three, length-append four) refl

-- an interior cell takes 13 bytes at most
pub interior_size : (usable : ℕ) (c : Cell) → IsWritableCell TableInterior usable c → length (cell_bytes TableInterior c) ≤ 13
unfolding left_bytes payload_bytes key_bytes
interior_size usable c is =
    let payload = is.payload refl in
    let chain = no_chain c is.local payload in
    let key = varint_short (cast_unsigned w64 c.key) in
    let parts = cell_parts (left_bytes TableInterior c) (payload_bytes TableInterior c) (key_bytes TableInterior c) c.local (chain_bytes c) in
    omega (arith, chain, key, parts, is.local)

local_few : (payload usable : ℕ) → 480 ≤ usable → local_of TableLeaf payload usable ≤ usable - 35
unfolding local_of
local_few payload usable low = elim (cases_Bool (nat_le payload (usable - 35))) [
  | inl whole ↦ rw whole (leb-true payload (usable - 35) whole)
  | inr more ↦ elim (cases_Bool (nat_le (least_local usable + (payload - least_local usable) % (usable - 4)) (usable - 35))) [
    | inl fits ↦ rw (more, fits) (leb-true _ (usable - 35) fits)
    | inr other ↦ rw (more, other) (omega arith)
  ]
]

-- a leaf cell with its offset fits any page but page 1
pub leaf_size : (usable : ℕ) (c : Cell) → 480 ≤ usable → IsWritableCell TableLeaf usable c → length (cell_bytes TableLeaf c) + 2 ≤ usable - 8
unfolding left_bytes payload_bytes key_bytes
leaf_size usable c low is =
    let local : length c.local ≤ usable - 35 = rw is.local (local_few c.payload usable low) in
    let chain = chain_short c in
    let payload = varint_short c.payload in
    let key = varint_short (cast_unsigned w64 c.key) in
    let parts = cell_parts (left_bytes TableLeaf c) (payload_bytes TableLeaf c) (key_bytes TableLeaf c) c.local (chain_bytes c) in
    omega (arith, local, chain, payload, key, parts)

-- the child is a number of four bytes, whichever it is
pub same_size : (c : Cell) (one two : ℕ) → length (cell_bytes TableInterior (record c { left = one })) ≡ length (cell_bytes TableInterior (record c { left = two }))
unfolding left_bytes payload_bytes key_bytes chain_bytes
same_size c one two =
    let a : Cell = record c { left = one } in
    let b : Cell = record c { left = two } in
    let first = cell_parts (left_bytes TableInterior a) (payload_bytes TableInterior a) (key_bytes TableInterior a) c.local (chain_bytes a) in
    let second = cell_parts (left_bytes TableInterior b) (payload_bytes TableInterior b) (key_bytes TableInterior b) c.local (chain_bytes b) in
    let left : length (left_bytes TableInterior a) ≡ length (left_bytes TableInterior b) = refl in
    let payload : length (payload_bytes TableInterior a) ≡ length (payload_bytes TableInterior b) = refl in
    let key : length (key_bytes TableInterior a) ≡ length (key_bytes TableInterior b) = refl in
    let chain : length (chain_bytes a) ≡ length (chain_bytes b) = refl in
    first ∙ rw (left, payload, key, chain) (sym second)
