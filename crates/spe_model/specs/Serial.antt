-- The serial types of a record ("Record Format" in SQLite's Database File Format).
use Rattle.std.specs.Prelude.{ℕ, ◌+◌, ◌-◌, ◌*◌, ◌/◌, Bool, ◌||◌, List, [], ◌∷◌, Option, Some, None, ◌==◌, nat_lt, if◌then◌else◌}
use Rattle.std.specs.List.{list_any}
use Rattle.std.specs.Option.{option_map}

-- the numbers that varints fill these bytes with, after `read` bytes of the first that gave `high`
abbrev pub types_from : ℕ → ℕ → List ℕ → Option (List ℕ)
types_from read high [] = if read == 0 then Some [] else None
types_from read high (b ∷ bs) =
    if read == 8 then option_map (λ ts. (high * 256 + b) ∷ ts) (types_from 0 0 bs)
    else (if nat_lt b 128 then option_map (λ ts. (high * 128 + b) ∷ ts) (types_from 0 0 bs)
    else types_from (read + 1) (high * 128 + (b - 128)) bs)

-- the serial types that fill these bytes, or None where the last is cut off
unfoldable pub types_at : List ℕ → Option (List ℕ)
types_at bytes = types_from 0 0 bytes

-- how many bytes a value of a serial type takes
abbrev pub size_of : ℕ → ℕ
size_of kind =
    if nat_lt kind 5 then kind
    else (if kind == 5 then 6 else (if nat_lt kind 8 then 8 else (if nat_lt kind 12 then 0 else (kind - 12) / 2)))

abbrev pub total : List ℕ → ℕ
total [] = 0
total (t ∷ ts) = size_of t + total ts

abbrev pub is_reserved : ℕ → Bool
is_reserved kind = (kind == 10) || (kind == 11)

abbrev pub has_reserved : List ℕ → Bool
has_reserved types = list_any is_reserved types
