-- How many bytes a record has as it is written ("Record Format" in SQLite's Database File Format): a header, which is its
-- own length and a serial type for each field, and the fields. Numbers of the header are varints in their shortest
-- spelling, and a whole number takes the shortest form, none at all for 0 and 1.
use Rattle.std.specs.Prelude.{ℕ, ℤ, pos, negsuc, ◌+◌, ◌-◌, ◌*◌, ◌^◌, List, [], ◌∷◌, length, Option, nat_lt, sum_by, if◌then◌else◌}
use Rattle.std.specs.List.{find}
use Rattle.std.specs.Option.{unwrap_or}
use Rattle.std.specs.Ordering.{int_eq}
use Rattle.spe_model.specs.declared.value.Value.{Value}
use Rattle.spe_model.specs.declared.value.Value.TheVariants.{Null, Int, Text, Blob, Real8}
use Rattle.spe_model.specs.Serial.{size_of}
use Rattle.spe_model.specs.Alias.{with_alias}
use Rattle.spe_model.specs.Varint.{varint_length}

-- what the bits of a whole number say, the sign's apart
abbrev pub magnitude : ℤ → ℕ
magnitude (pos n) = n
magnitude (negsuc n) = n

-- the serial type of a whole number: 8 is the number 0 and 9 the number 1, and any other takes the fewest bytes that hold it
abbrev pub integer_type : ℤ → ℕ
integer_type n =
    if int_eq n (pos 0) then 8
    else (if int_eq n (pos 1) then 9
    else unwrap_or (find (λ t. nat_lt (magnitude n) (2 ^ (8 * size_of t - 1))) (1 ∷ 2 ∷ 3 ∷ 4 ∷ 5 ∷ [])) 6)

abbrev pub serial_type : Value → ℕ
serial_type Null = 0
serial_type (Int n) = integer_type n
serial_type (Real8 bytes) = 7
serial_type (Blob bytes) = 12 + 2 * length bytes
serial_type (Text bytes) = 13 + 2 * length bytes

-- how many bytes the serial type of a value has, and how many the value
unfoldable pub type_length : Value → ℕ
type_length value = varint_length (serial_type value)

unfoldable pub body_length : Value → ℕ
body_length Null = 0
body_length (Int n) = size_of (integer_type n)
body_length (Real8 bytes) = 8
body_length (Blob bytes) = length bytes
body_length (Text bytes) = length bytes

-- the length of a header whose serial types have so many bytes: the fewest bytes that can spell a number that counts them too
unfoldable pub header_length : ℕ → ℕ
header_length types = types + unwrap_or (find (λ n. nat_lt (types + n) (2 ^ (7 * n))) (1 ∷ 2 ∷ 3 ∷ 4 ∷ 5 ∷ 6 ∷ 7 ∷ 8 ∷ [])) 9

-- the fields of the record of a row with these values: in the column that is the rowid's the field is NULL
abbrev pub fields : Option ℕ → List Value → List Value
fields alias values = with_alias alias Null values

-- the length of that record
unfoldable pub record_length : Option ℕ → List Value → ℕ
record_length alias values = header_length (sum_by type_length (fields alias values)) + sum_by body_length (fields alias values)
