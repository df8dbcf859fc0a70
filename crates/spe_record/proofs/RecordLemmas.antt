-- The parts that are written make the record of a row.
use Rattle.std.proofs.Common.{◌≡◌, ℕ, ◌≤◌, List, [], ◌++◌, length, min, ap, ◌∙◌, subst}
use Rattle.std.specs.List.{flat_map}
use Rattle.std.specs.Prelude.{Option, Ok, sum_by}
use Rattle.spe_model.specs.declared.value.Value.{Value}
use Rattle.spe_model.specs.Length.{type_length, header_length, fields, record_length}
use Rattle.spe_model.specs.Record.{record_of}
use Rattle.spe_format.specs.Spelling.{varint_bytes}
use Rattle.spe_record.specs.Written.{type_bytes, value_bytes, fields_bytes, record_bytes, IsSpelled, AreSpelled, AreSound}
use Rattle.spe_record.proofs.WrittenLemmas.{header_exact, all_written, record_long, record_reads}

abbrev pub IsRecord : (alias : Option ℕ) → List Value → List ℕ → Type 0
IsRecord alias values bytes = (bytes ≡ record_bytes alias values) × (length bytes ≡ record_length alias values) × (record_of bytes ≡ Ok (fields alias values))

pub record_made : (alias : Option ℕ) (values : List Value) (start first second last bytes : List ℕ) (types header : ℕ)
    → types ≡ min (sum_by type_length (fields alias values)) 18446744073709551615 → types ≤ 4611686018427387904 → header ≡ min (header_length types) 18446744073709551615
    → start ≡ [] → first ≡ start ++ varint_bytes header → second ≡ first ++ flat_map type_bytes (fields alias values)
    → last ≡ second ++ flat_map value_bytes (fields alias values) → bytes ≡ last → IsSpelled header → AreSpelled (fields alias values) → AreSound (fields alias values)
    → IsRecord alias values bytes
record_made alias values start first second last bytes types header sum few is none one two three all own spelled sound =
    let vs = fields alias values in
    let exact : header ≡ header_length (sum_by type_length vs) = header_exact (sum_by type_length vs) types header sum few is in
    let own_spelled : IsSpelled (header_length (sum_by type_length vs)) = subst IsSpelled exact own in
    let whole : bytes ≡ fields_bytes vs = all ∙ all_written start first second last header vs none one two three exact in
    (whole, ap length whole ∙ record_long alias values spelled sound own_spelled, ap record_of whole ∙ record_reads vs spelled sound own_spelled)
