-- The cells of a b-tree page, read from the front.
use Rattle.std.specs.Prelude.{ℕ, ℤ, pos, Bool, List, length, take, drop, Option, Some, None, ◌==◌, nat_lt, if◌then◌else◌}
use Rattle.std.specs.Int.{w64, cast_signed}
use Rattle.spe_model.specs.declared.page.Kind.{Kind}
use Rattle.spe_model.specs.declared.page.Cell.{Cell}
use Rattle.spe_model.specs.Kind.{is_leaf, is_table, has_payload, local_of}
use Rattle.spe_model.specs.Big.{u32_at}
use Rattle.spe_model.specs.Varint.{varint_of}

infixl 10 ◌>>=◌
abbrev pub ◌>>=◌ : {A B : Type 0} → Option A → (A → Option B) → Option B
None >>= f = None
(Some x) >>= f = f x

-- A part is a value and the bytes after it.
abbrev pub number_at : List ℕ → Option (ℕ × List ℕ)
number_at bytes = do
  found ← varint_of bytes
  Some (found.0, drop found.1 bytes)

abbrev pub long_at : List ℕ → Option (ℕ × List ℕ)
long_at bytes = if nat_lt (length bytes) 4 then None else Some (u32_at bytes 0, drop 4 bytes)

unfoldable pub left_at : Kind → List ℕ → Option (ℕ × List ℕ)
left_at kind bytes = if is_leaf kind then Some (0, bytes) else long_at bytes

unfoldable pub payload_at : Kind → List ℕ → Option (ℕ × List ℕ)
payload_at kind bytes = if has_payload kind then number_at bytes else Some (0, bytes)

unfoldable pub key_at : Kind → List ℕ → Option (ℤ × List ℕ)
key_at kind bytes =
    if is_table kind then (number_at bytes >>= λ x. Some (cast_signed w64 x.0, x.1)) else Some (pos 0, bytes)

unfoldable pub bytes_at : ℕ → List ℕ → Option (List ℕ × List ℕ)
bytes_at count bytes = if nat_lt (length bytes) count then None else Some (take count bytes, drop count bytes)

unfoldable pub chain_at : Bool → List ℕ → Option (ℕ × List ℕ)
chain_at whole bytes = if whole then Some (0, bytes) else long_at bytes

abbrev pub size_of : Kind → ℕ → ℕ → ℕ
size_of kind payload usable = if has_payload kind then local_of kind payload usable else 0

-- the cell at the front and the bytes after it, or None where it passes the end or its payload is too long
unfoldable pub cell_at : Kind → ℕ → List ℕ → Option (Cell × List ℕ)
cell_at kind usable bytes = do
  left ← left_at kind bytes
  payload ← payload_at kind left.1
  if nat_lt 2147483647 payload.0 then None else do
    key ← key_at kind payload.1
    local ← bytes_at (size_of kind payload.0 usable) key.1
    chain ← chain_at (size_of kind payload.0 usable == payload.0) local.1
    Some (record { left = left.0; key = key.0; payload = payload.0; local = local.0; chain = chain.0 }, chain.1)
