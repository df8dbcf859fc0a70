-- The one form in which a record is written ("Record Format" in SQLite's Database File Format): numbers of the header are
-- varints in their shortest spelling, and a whole number takes the shortest form.
use Rattle.std.specs.Prelude.{◌≡◌, ℕ, List, [], ◌∷◌, ◌++◌, length, true, Option, Some, FitsSigned, if◌then◌else◌, sum_by}
use Rattle.std.specs.Int.{w64}
use Rattle.std.specs.List.{flat_map}
use Rattle.std.specs.Str.{is_utf8}
use Rattle.byteorder.specs.Endian.{big_bytes, low_bytes}
use Rattle.spe_model.specs.declared.value.Value.{Value}
use Rattle.spe_model.specs.declared.value.Value.TheVariants.{Null, Int, Text, Blob, Real8}
use Rattle.spe_model.specs.Alias.{is_alias}
use Rattle.spe_model.specs.Serial.{size_of}
use Rattle.spe_model.specs.Varint.{varint_of, varint_length}
use Rattle.spe_model.specs.Length.{integer_type, serial_type, type_length, header_length, fields}
use Rattle.spe_format.specs.Spelling.{varint_bytes}

-- the bytes of a value's serial type, and those of the value
unfoldable pub type_bytes : Value → List ℕ
type_bytes value = varint_bytes (serial_type value)

unfoldable pub value_bytes : Value → List ℕ
value_bytes Null = []
value_bytes (Int n) = big_bytes (size_of (integer_type n)) (low_bytes w64 (size_of (integer_type n)) n)
value_bytes (Real8 bytes) = bytes
value_bytes (Blob bytes) = bytes
value_bytes (Text bytes) = bytes

-- the bytes of the record that has these fields
abbrev pub fields_bytes : List Value → List ℕ
fields_bytes values = varint_bytes (header_length (sum_by type_length values)) ++ (flat_map type_bytes values ++ flat_map value_bytes values)

-- the bytes of the record of a row with these values: in the column that is the rowid's the field is NULL
abbrev pub record_bytes : (alias : Option ℕ) → List Value → List ℕ
record_bytes alias values = fields_bytes (fields alias values)

-- the field at a place, of a row that has this value there
abbrev pub field_at : (alias : Option ℕ) (place : ℕ) → Value → Value
field_at alias place value = if is_alias alias place then Null else value

-- a number reads back from its shortest spelling, whatever comes after it
pub record IsSpelled (n : ℕ) : Type 0 where
  pub reads : (rest : List ℕ) → varint_of (varint_bytes n ++ rest) ≡ Some (n, length (varint_bytes n))
  pub long : length (varint_bytes n) ≡ varint_length n

abbrev pub AreSpelled : List Value → Type 0
AreSpelled [] = Unit {0}
AreSpelled (v ∷ vs) = IsSpelled (serial_type v) × AreSpelled vs

-- a value is one of its type
abbrev pub IsSound : Value → Type 0
IsSound Null = Unit {0}
IsSound (Int n) = FitsSigned w64 n
IsSound (Text text) = is_utf8 text ≡ true
IsSound (Blob bytes) = Unit {0}
IsSound (Real8 bytes) = length bytes ≡ 8

abbrev pub AreSound : List Value → Type 0
AreSound [] = Unit {0}
AreSound (v ∷ vs) = IsSound v × AreSound vs
