-- What is found on a disk, where the disk tells what its files hold.
use Rattle.std.specs.Prelude.{ℕ, ◌≤◌, Option, Result, Ok, Err, IfErr}
use Rattle.spe_model.specs.Content.{Content}
use Rattle.spe_model.specs.Trace.{History}
use Rattle.spe_model.specs.Faults.{Rose}
use Rattle.spe_disk.specs.Added.{IfTold}
use Rattle.spe_recover.specs.declared.failure.Failure.{Failure}
use Rattle.spe_recover.specs.declared.failure.Failure.TheVariants.{Disk, Memory}

-- P of the present content and what was answered, unless the reading failed
abbrev pub FindsTold : {X E : Type 0} → Option History → Result X E → (Content → X → Type 0) → Type 0
FindsTold told (Ok x) P = IfTold told (λ content. P content x)
FindsTold told (Err e) P = Unit {0}

abbrev pub IsCausedBy : ℕ → ℕ → Failure → Type 0
IsCausedBy before now Disk = Rose before now
IsCausedBy before now Memory = Unit {0}

-- a count of faults never falls, and has risen where the disk failed
pub record HasDiskCause {X : Type 0} (before now : ℕ) (result : Result X Failure) : Type 0 where
  pub later : before ≤ now
  pub failed : IfErr result (IsCausedBy before now)
