-- Rows whose records are tried, and rows of which nothing is.
use Rattle.std.specs.Prelude.{ℕ, ◌+◌, min, Bool, List, [], ◌∷◌, length, Result}
use Rattle.spe_model.specs.declared.value.Value.{Value}
use Rattle.spe_model.specs.Record.{record_of}
use Rattle.spe_model.specs.Verdict.{LeafRow, fits, no_marks, record_marks}
use Rattle.spe_model.specs.Walk.{Keeps}
use Rattle.spe_check.specs.declared.halt.Halt.{Halt}
use Rattle.spe_check.specs.Tries.{Tries}
use Rattle.spe_check.specs.Visitor.{Outlook}

-- the number, or the greatest of 64 bits
abbrev pub saturated : ℕ → ℕ
saturated n = min n 18446744073709551615

abbrev pub TriesRecord : (leaf columns : ℕ) → List ℕ → Result (List Value) Halt → Type 0
TriesRecord leaf columns payload result =
    (count : ℕ) (met : ℕ → Bool) → Tries count met met (Keeps leaf 8 (fits columns (record_of payload)) ∷ []) result

-- what comes of rows of a table with so many columns, behind so many rows
abbrev pub record_outlook : (columns count : ℕ) → List LeafRow → Outlook
record_outlook columns count rows = record { marks = record_marks columns; placed = []; count = saturated (count + length rows) }

abbrev pub no_outlook : List LeafRow → Outlook
no_outlook rows = record { marks = no_marks; placed = []; count = 0 }
