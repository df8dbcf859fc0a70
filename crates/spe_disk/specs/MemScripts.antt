-- What scripts in memory hold, and when a reading fails.
use Rattle.std.specs.Prelude.{◌≡◌, ℕ, Bool, true, false, List, Result, Ok, Err}
use Rattle.std.specs.Option.{option_map}
use Rattle.std.specs.BTreeMap.{get_by_text}
use Rattle.spe_disk.specs.declared.scripts.ScriptFault.{ScriptFault}
use Rattle.spe_disk.specs.declared.scripts.ScriptFault.TheVariants as faults
use Rattle.spe_disk.specs.declared.mem_scripts.MemScripts.{MemScripts}
use Rattle.spe_disk.specs.Listed.{next_number, is_listed}
use Rattle.spe_disk.specs.Scripts.{Texts}

abbrev pub texts_of : MemScripts → Texts
texts_of s = λ name. option_map (λ v. v.items) (get_by_text s.texts name)

-- how often a reading has failed
abbrev pub script_faults : MemScripts → ℕ
script_faults s = s.faults

-- how many readings there were, up to the greatest number of their type
abbrev pub script_reads : MemScripts → ℕ
script_reads s = s.calls

-- the readings that are to fail
abbrev pub listed_reads : MemScripts → List ℕ
listed_reads s = s.failing

-- whether the outside has failed
abbrev pub is_failed : {T : Type 0} → Result T ScriptFault → Bool
is_failed (Ok x) = false
is_failed (Err faults.Failed) = true
is_failed (Err (faults.Memory e)) = false

-- a reading fails exactly where it is listed, but for want of memory
pub record ScriptsAsListed {T : Type 0} (old new : MemScripts) (result : Result T ScriptFault) : Type 0 where
  pub fails : is_failed result ≡ is_listed (listed_reads old) (next_number (script_reads old))
  pub reads : script_reads new ≡ next_number (script_reads old)
  pub listed : listed_reads new ≡ listed_reads old
