-- The four kinds of b-tree page.
use Rattle.std.specs.Prelude.{ℕ, ◌+◌, ◌-◌, ◌*◌, ◌/◌, ◌%◌, Bool, true, false, Option, Some, None, ◌==◌, nat_le, if◌then◌else◌}
use Rattle.spe_model.specs.declared.page.Kind.{Kind}
use Rattle.spe_model.specs.declared.page.Kind.TheVariants.{TableLeaf, TableInterior, IndexLeaf, IndexInterior}

-- the kind that a type byte names
unfoldable pub kind_of : ℕ → Option Kind
kind_of n =
    if n == 13 then Some TableLeaf
    else (if n == 5 then Some TableInterior else (if n == 10 then Some IndexLeaf else (if n == 2 then Some IndexInterior else None)))

abbrev pub is_leaf : Kind → Bool
is_leaf TableLeaf = true
is_leaf TableInterior = false
is_leaf IndexLeaf = true
is_leaf IndexInterior = false

abbrev pub is_table : Kind → Bool
is_table TableLeaf = true
is_table TableInterior = true
is_table IndexLeaf = false
is_table IndexInterior = false

abbrev pub has_payload : Kind → Bool
has_payload TableLeaf = true
has_payload TableInterior = false
has_payload IndexLeaf = true
has_payload IndexInterior = true

-- the longest payload that stays whole in its cell
abbrev pub most_local : Kind → ℕ → ℕ
most_local kind usable = if is_table kind then usable - 35 else (usable - 12) * 64 / 255 - 23

-- how much of a longer one stands there at least
abbrev pub least_local : ℕ → ℕ
least_local usable = (usable - 12) * 32 / 255 - 23

-- how much of a payload stands in its cell
unfoldable pub local_of : Kind → ℕ → ℕ → ℕ
local_of kind payload usable =
    let fitted = least_local usable + (payload - least_local usable) % (usable - 4) in
    if nat_le payload (most_local kind usable) then payload
    else (if nat_le fitted (most_local kind usable) then fitted else least_local usable)
