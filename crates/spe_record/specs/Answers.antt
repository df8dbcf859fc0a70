-- What a reader of records may answer, given what reading gives. Memory may run out at any time.
use Rattle.std.specs.Prelude.{◌≡◌, ℕ, Bool, true, false, List, [], length, Option, Some, None, Result, Ok, Err, if◌then◌else◌}
use Rattle.std.specs.Str.{is_utf8}
use Rattle.spe_model.specs.declared.value.Value.{Value}
use Rattle.spe_model.specs.declared.record.RecordFault.{RecordFault}
use Rattle.spe_model.specs.declared.record.RecordFault.TheVariants.{NotUtf8, Memory}
use Rattle.spe_model.specs.Record.{is_text, are_texts, record_of_types, values_of}
use Rattle.spe_model.specs.Serial.{total}

abbrev pub FailsRecord : {X : Type 0} → RecordFault → Result X RecordFault → Type 0
FailsRecord Memory reading = Unit {0}
FailsRecord fault reading = reading ≡ Err fault

-- the answer is what reading gives, or Memory
abbrev pub GivesRecord : {X : Type 0} → Result X RecordFault → Result X RecordFault → Type 0
GivesRecord (Ok x) reading = reading ≡ Ok x
GivesRecord (Err fault) reading = FailsRecord fault reading

-- serial types whose values take so many bytes
abbrev pub Fills : Option (List ℕ) → ℕ → Type 0
Fills None bytes = ⊥
Fills (Some types) bytes = total types ≡ bytes

-- the values of serial types, where there are some
abbrev pub values_at : Option (List ℕ) → List ℕ → List Value
values_at None body = []
values_at (Some types) body = values_of types body

-- the values, where each text is UTF-8
abbrev pub of_texts : List Value → Result (List Value) RecordFault
of_texts values = if are_texts values then Ok values else Err NotUtf8

-- serial types fill a body, so that its texts alone decide; or they are the fault
abbrev pub TriesLengths : Result (Unit {0}) RecordFault → Option (List ℕ) → List ℕ → Type 0
TriesLengths (Ok done) types body = Fills types (length body) × (record_of_types types body ≡ of_texts (values_at types body))
TriesLengths (Err fault) types body = record_of_types types body ≡ Err fault

-- a fault of values: NotUtf8 where this test of their texts fails, or Memory
abbrev pub NoTexts : RecordFault → Bool → Type 0
NoTexts NotUtf8 test = test ≡ false
NoTexts Memory test = Unit {0}
NoTexts _ test = ⊥

abbrev pub GivesText : Result (List ℕ) RecordFault → List ℕ → Type 0
GivesText (Ok text) bytes = (text ≡ bytes) × (is_utf8 bytes ≡ true)
GivesText (Err fault) bytes = NoTexts fault (is_utf8 bytes)

abbrev pub GivesValue : Result Value RecordFault → Value → Type 0
GivesValue (Ok x) value = (x ≡ value) × (is_text value ≡ true)
GivesValue (Err fault) value = NoTexts fault (is_text value)

abbrev pub GivesValues : {X : Type 0} → (X → List Value) → Result X RecordFault → List Value → Type 0
GivesValues view (Ok x) values = (view x ≡ values) × (are_texts values ≡ true)
GivesValues view (Err fault) values = NoTexts fault (are_texts values)
