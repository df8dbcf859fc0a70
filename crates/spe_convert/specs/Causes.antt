-- Why free lists are not put in another form.
use Rattle.std.specs.Prelude.{◌⊎◌, ℕ, ◌≤◌, Result, IfErr}
use Rattle.spe_model.specs.Faults.{Rose}
use Rattle.spe_rewrite.specs.declared.fault.RewriteFault.{RewriteFault}
use Rattle.spe_rewrite.specs.declared.fault.RewriteFault.TheVariants as rewriting
use Rattle.spe_convert.specs.declared.fault.ConvertFault.{ConvertFault}
use Rattle.spe_convert.specs.declared.fault.ConvertFault.TheVariants.{Corrupt, Disk, Memory}

abbrev pub fault_of : RewriteFault → ConvertFault
fault_of rewriting.Disk = Disk
fault_of rewriting.Memory = Memory

-- one of two counts of faults has risen where the disk failed; the pages are never too many, nor in server form already
abbrev pub IsReleaseFault : (reads reads_now ops ops_now : ℕ) → ConvertFault → Type 0
IsReleaseFault reads reads_now ops ops_now Disk = Rose reads reads_now ⊎ Rose ops ops_now
IsReleaseFault reads reads_now ops ops_now Memory = Unit {0}
IsReleaseFault reads reads_now ops ops_now (Corrupt page) = Unit {0}
IsReleaseFault reads reads_now ops ops_now _ = ⊥

-- the counts never fall
pub record HasReleaseCause {T : Type 0} (reads reads_now ops ops_now : ℕ) (result : Result T ConvertFault) : Type 0 where
  pub reads_later : reads ≤ reads_now
  pub ops_later : ops ≤ ops_now
  pub failed : IfErr result (IsReleaseFault reads reads_now ops ops_now)

-- the same, where the pages may be too many, or in server form already
abbrev pub IsPrepareFault : (reads reads_now ops ops_now : ℕ) → ConvertFault → Type 0
IsPrepareFault reads reads_now ops ops_now Disk = Rose reads reads_now ⊎ Rose ops ops_now
IsPrepareFault reads reads_now ops ops_now _ = Unit {0}

pub record HasPrepareCause {T : Type 0} (reads reads_now ops ops_now : ℕ) (result : Result T ConvertFault) : Type 0 where
  pub reads_later : reads ≤ reads_now
  pub ops_later : ops ≤ ops_now
  pub failed : IfErr result (IsPrepareFault reads reads_now ops ops_now)

-- the same for a call that only reads
abbrev pub IsRefusing : (before now : ℕ) → ConvertFault → Type 0
IsRefusing before now Disk = Rose before now
IsRefusing before now _ = Unit {0}

pub record HasRefusing {T : Type 0} (before now : ℕ) (result : Result T ConvertFault) : Type 0 where
  pub later : before ≤ now
  pub failed : IfErr result (IsRefusing before now)
