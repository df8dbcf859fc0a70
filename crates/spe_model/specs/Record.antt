-- Records ("Record Format" in SQLite's Database File Format): the values that bytes stand for, and the faults that
-- bytes may have.
use Rattle.std.specs.Prelude.{ℕ, ◌%◌, pos, Bool, true, ◌||◌, List, [], ◌∷◌, length, take, drop, Option, Some, None, Result, Ok, Err, ◌==◌, nat_lt, if◌then◌else◌, slice_range}
use Rattle.std.specs.List.{list_all}
use Rattle.std.specs.Str.{is_utf8}
use Rattle.byteorder.specs.Endian.{big_number, twos_complement}
use Rattle.spe_model.specs.declared.value.Value.{Value}
use Rattle.spe_model.specs.declared.value.Value.TheVariants.{Null, Int, Text, Blob, Real8}
use Rattle.spe_model.specs.declared.record.RecordFault.{RecordFault}
use Rattle.spe_model.specs.declared.record.RecordFault.TheVariants.{HeaderLength, ReservedType, Short, Trailing, NotUtf8}
use Rattle.spe_model.specs.Varint.{varint_of}
use Rattle.spe_model.specs.Serial.{types_at, size_of, total, has_reserved}

-- the value of a serial type, whose bytes these are
unfoldable pub value_of : ℕ → List ℕ → Value
value_of kind bytes =
    if (kind == 0) || (kind == 10) || (kind == 11) then Null
    else (if nat_lt kind 7 then Int (twos_complement (length bytes) (big_number (length bytes) bytes))
    else (if kind == 7 then Real8 bytes
    else (if kind == 8 then Int (pos 0)
    else (if kind == 9 then Int (pos 1)
    else (if kind % 2 == 0 then Blob bytes else Text bytes)))))

-- the values of these serial types, one after the other
abbrev pub values_of : List ℕ → List ℕ → List Value
values_of [] bytes = []
values_of (t ∷ ts) bytes = value_of t (take (size_of t) bytes) ∷ values_of ts (drop (size_of t) bytes)

-- a text is UTF-8; any other value passes
abbrev pub is_text : Value → Bool
is_text (Text bytes) = is_utf8 bytes
is_text _ = true

abbrev pub are_texts : List Value → Bool
are_texts values = list_all is_text values

abbrev pub record_of_types : Option (List ℕ) → List ℕ → Result (List Value) RecordFault
record_of_types None body = Err HeaderLength
record_of_types (Some types) body =
    if has_reserved types then Err ReservedType
    else (if nat_lt (length body) (total types) then Err Short
    else (if nat_lt (total types) (length body) then Err Trailing
    else (if are_texts (values_of types body) then Ok (values_of types body) else Err NotUtf8)))

abbrev pub record_of_header : Option (ℕ × ℕ) → List ℕ → Result (List Value) RecordFault
record_of_header None bytes = Err HeaderLength
record_of_header (Some found) bytes =
    if nat_lt found.0 found.1 || nat_lt (length bytes) found.0 then Err HeaderLength
    else record_of_types (types_at (slice_range bytes found.1 found.0)) (drop found.0 bytes)

-- The values of a record, or the lowest fault. The header is its own length, as a varint, and the serial types, which
-- fill it; the values follow.
unfoldable pub record_of : List ℕ → Result (List Value) RecordFault
record_of bytes = record_of_header (varint_of bytes) bytes
