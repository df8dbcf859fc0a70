-- What reading a script answers, given what the script is. Memory may run out at any time.
use Rattle.std.specs.Prelude.{◌≡◌, ℕ, List, Option, Result, Ok, Err}
use Rattle.spe_model.specs.declared.transaction.Tx.{Tx}
use Rattle.spe_parse.specs.declared.halt.Halt.{Halt}
use Rattle.spe_parse.specs.Read.{IsPart}
use Rattle.spe_script.specs.declared.fault.Misread.{Misread}
use Rattle.spe_script.specs.declared.fault.ScriptError.{ScriptError}
use Rattle.spe_script.specs.declared.fault.ScriptKind.{ScriptKind}
use Rattle.spe_script.specs.declared.fault.ScriptKind.TheVariants.{Memory}
use Rattle.spe_script.specs.declared.part.Border.{Border}
use Rattle.spe_script.specs.declared.part.Item.{Item}
use Rattle.spe_script.specs.Script.{answer_of, located}

abbrev pub IsMisreadOf : {X E : Type 0} → ScriptKind → E → Result X E → Type 0
IsMisreadOf Memory fault reading = Unit {0}
IsMisreadOf kind fault reading = reading ≡ Err fault

-- the answer is what reading gives, or want of memory
abbrev pub IsRead : {X : Type 0} → Result X Misread → Result X Misread → Type 0
IsRead (Ok x) reading = reading ≡ Ok x
IsRead (Err misread) reading = IsMisreadOf misread.kind misread reading

-- the same of a whole script
abbrev pub IsScript : Result (List Tx) ScriptError → Result (List Tx) ScriptError → Type 0
IsScript (Ok txs) script = script ≡ Ok txs
IsScript (Err error) script = IsMisreadOf error.kind error script

abbrev pub as_found : Item → Item
as_found item = item

-- the answer is right for whatever reading gives what is found before this border
abbrev pub IsAnswerTo : Border → Result Item Halt → Result (Option Item) Misread → Type 0
IsAnswerTo border found answer = (reading : Result Item Halt) → IsPart as_found found reading → IsRead answer (answer_of border reading)

-- the answer is right for whatever reading of these bytes gives what is found
abbrev pub IsLocated : List ℕ → Result (List Tx) Misread → Result (List Tx) ScriptError → Type 0
IsLocated bytes found answer = (reading : Result (List Tx) Misread) → IsRead found reading → IsScript answer (located bytes reading)
