-- Records whose values are counted and not made: what the serial types of a record say of it, and of its texts.
use Rattle.std.specs.Prelude.{ℕ, ◌+◌, min, not, ◌||◌, ◌&&◌, List, length, Result, Ok, Err, nat_lt, if◌then◌else◌}
use Rattle.spe_model.specs.declared.value.Value.{Value}
use Rattle.spe_model.specs.declared.record.RecordFault.{RecordFault}
use Rattle.spe_model.specs.declared.record.RecordFault.TheVariants.{ReservedType, Short, Trailing, NotUtf8}
use Rattle.spe_model.specs.Record.{are_texts, is_text, value_of, values_of}
use Rattle.spe_model.specs.Serial.{has_reserved, is_reserved, size_of, total}
use Rattle.spe_record.specs.declared.counted.Seen.{Seen}

-- the number of values, where there are any, or the fault
abbrev pub count_of : Result (List Value) RecordFault → Result ℕ RecordFault
count_of (Ok values) = Ok (length values)
count_of (Err fault) = Err fault

-- the number, or the greatest of 64 bits
abbrev pub at_most : ℕ → ℕ
at_most n = min n 18446744073709551615

-- what serial types say, whose values stand in these bytes
abbrev pub seen_of : List ℕ → List ℕ → Seen
seen_of body types = record {
  count = length types;
  reserved = has_reserved types;
  total = at_most (total types);
  texts = are_texts (values_of types body);
}

-- with one serial type more, the bytes of whose value are these
abbrev pub seen_with : Seen → ℕ → List ℕ → Seen
seen_with seen kind bytes = record {
  count = seen.count + 1;
  reserved = seen.reserved || is_reserved kind;
  total = at_most (seen.total + size_of kind);
  texts = seen.texts && is_text (value_of kind bytes);
}

-- with more of them, whose values stand in these bytes
abbrev pub seen_behind : Seen → List ℕ → List ℕ → Seen
seen_behind seen body types = record {
  count = seen.count + length types;
  reserved = seen.reserved || has_reserved types;
  total = at_most (seen.total + total types);
  texts = seen.texts && are_texts (values_of types body);
}

abbrev pub judged : Seen → ℕ → Result ℕ RecordFault
judged seen body =
    if seen.reserved then Err ReservedType
    else (if nat_lt body seen.total then Err Short
    else (if nat_lt seen.total body then Err Trailing
    else (if not seen.texts then Err NotUtf8 else Ok seen.count)))
