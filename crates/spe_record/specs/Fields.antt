-- The values of a record one by one.
use Rattle.std.specs.Prelude.{◌≡◌, ℕ, List, [], ◌∷◌, length, Option, Some, None}
use Rattle.spe_model.specs.declared.value.Value.{Value}
use Rattle.spe_model.specs.declared.value.Value.TheVariants as values
use Rattle.spe_model.specs.Serial.{types_at}
use Rattle.spe_record.specs.declared.fields.Field.{Field}
use Rattle.spe_record.specs.declared.fields.Field.TheVariants.{Null, Int, Text, Blob, Real8}
use Rattle.spe_record.specs.Answers.{Fills, values_at}

-- the value whose bytes are lent
abbrev pub field_seen : Field → Value
field_seen Null = values.Null
field_seen (Int n) = values.Int n
field_seen (Text bytes) = values.Text bytes.now
field_seen (Blob bytes) = values.Blob bytes.now
field_seen (Real8 bytes) = values.Real8 bytes.now

-- the values of these serial types fill the body, and there are so many
pub record AreFields (types body : List ℕ) (count : ℕ) : Type 0 where
  pub fills : Fills (types_at types) (length body)
  pub counted : count ≡ length (values_at (types_at types) body)

-- the first of these is the field, and the others are behind it; or there are none
abbrev pub IsLedBy : List Value → Option Field → List Value → Type 0
IsLedBy before None after = (before ≡ []) × (after ≡ [])
IsLedBy before (Some field) after = before ≡ field_seen field ∷ after
