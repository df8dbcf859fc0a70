-- What is done to a disk, where it tells what its files hold.
use Rattle.std.specs.Prelude.{◌≡◌, ◌⊎◌, ℕ, ◌+◌, ◌-◌, ◌^◌, ◌≤◌, min, Option, Some, None, Result, IfErr, OnErr}
use Rattle.spe_model.specs.declared.file.FileNo.TheVariants.{Database}
use Rattle.spe_model.specs.Content.{bytes_of}
use Rattle.spe_model.specs.Faults.{Rose}
use Rattle.spe_model.specs.Trace.{History, present}
use Rattle.spe_rewrite.specs.declared.fault.RewriteFault.{RewriteFault}
use Rattle.spe_rewrite.specs.declared.fault.RewriteFault.TheVariants.{Disk, Memory}

-- the file of the database has the bytes that it had
abbrev pub KeepsFile : (old new : Option History) → Type 0
KeepsFile None new = new ≡ None
KeepsFile (Some h) None = ⊥
KeepsFile (Some h) (Some k) = bytes_of (present k) Database ≡ bytes_of (present h) Database

-- so many more than were counted before, up to the greatest number of the type
abbrev pub counted : (before more : ℕ) → ℕ
counted before more = min (before + more) (2 ^ 64 - 1)

-- two counts of faults never fall, and one has risen where the call failed
pub record HasEither {X E : Type 0} (reads reads_now ops ops_now : ℕ) (result : Result X E) : Type 0 where
  pub reads_later : reads ≤ reads_now
  pub ops_later : ops ≤ ops_now
  pub failed : OnErr result (Rose reads reads_now ⊎ Rose ops ops_now)

abbrev pub IsCausedBy : (reads reads_now ops ops_now : ℕ) → RewriteFault → Type 0
IsCausedBy reads reads_now ops ops_now Disk = Rose reads reads_now ⊎ Rose ops ops_now
IsCausedBy reads reads_now ops ops_now Memory = Unit {0}

-- the same, where there may have been no memory
pub record HasCauses {X : Type 0} (reads reads_now ops ops_now : ℕ) (result : Result X RewriteFault) : Type 0 where
  pub reads_later : reads ≤ reads_now
  pub ops_later : ops ≤ ops_now
  pub failed : IfErr result (IsCausedBy reads reads_now ops ops_now)
