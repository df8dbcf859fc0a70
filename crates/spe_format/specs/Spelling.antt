-- The shortest spelling of a number as a varint, which is the one that is written.
use Rattle.std.specs.Prelude.{ℕ, zero, suc, ◌+◌, ◌-◌, ◌/◌, ◌%◌, ◌<◌, List, [], ◌∷◌, ◌++◌, ◌==◌, if◌then◌else◌, slice_index}
use Rattle.spe_model.specs.Varint.{varint_length}

-- the lowest n groups of seven bits, the highest first, each as a byte that others follow
abbrev pub groups : ℕ → ℕ → List ℕ
groups zero number = []
groups (suc n) number = groups n (number / 128) ++ (128 + number % 128) ∷ []

-- Its bytes. The last has the lowest seven bits, and a ninth the lowest eight.
abbrev pub varint_bytes : ℕ → List ℕ
varint_bytes value =
    if varint_length value == 9 then groups 8 (value / 256) ++ (value % 256) ∷ []
    else groups (varint_length value - 1) (value / 128) ++ (value % 128) ∷ []

abbrev pub AreBytes : List ℕ → Type 0
AreBytes bytes = (i : ℕ) → slice_index bytes i < 256
