-- What reading a script answers.
use Rattle.std.specs.Prelude.{◌≡◌, ℕ, List, Option, Some, None, Result, Ok, Err, Vec}
use Rattle.std.specs.Option.{option_map}
use Rattle.std.specs.declared.alloc.Global.{Global}
use Rattle.spe_disk.specs.Listed.{next_number}
use Rattle.spe_disk.specs.declared.scripts.ScriptFault.{ScriptFault}
use Rattle.spe_disk.specs.declared.scripts.ScriptFault.TheVariants as faults

-- the text of each name that has one
abbrev pub Texts : Type 0
Texts = List ℕ → Option (List ℕ)

-- the bytes of an answered text
abbrev pub bytes_in : Option (Vec ℕ Global) → Option (List ℕ)
bytes_in found = option_map (λ v. v.items) found

abbrev pub ReadsText : Option Texts → List ℕ → Result (Option (Vec ℕ Global)) ScriptFault → Type 0
ReadsText None name result = Unit {0}
ReadsText (Some texts) name (Ok found) = bytes_in found ≡ texts name
ReadsText (Some texts) name (Err fault) = Unit {0}

-- A count of faults is the next one where the outside failed, and else stays: want of memory is no fault of the outside.
abbrev pub CountsScriptFault : {T : Type 0} → (before now : ℕ) → Result T ScriptFault → Type 0
CountsScriptFault before now (Ok x) = now ≡ before
CountsScriptFault before now (Err faults.Failed) = now ≡ next_number before
CountsScriptFault before now (Err (faults.Memory e)) = now ≡ before
