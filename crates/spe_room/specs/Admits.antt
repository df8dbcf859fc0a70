-- The faults of a space over a disk that is only read.
use Rattle.std.specs.Prelude.{Bool, true, false, Option, IsTrue}
use Rattle.std.specs.Option.{ForSome}
use Rattle.spe_space.specs.declared.fault.SpaceFault.{SpaceFault}
use Rattle.spe_space.specs.declared.fault.SpaceFault.TheVariants.{Read, PageOut, Memory}

abbrev pub admits_read : SpaceFault → Bool
admits_read Read = true
admits_read (PageOut page pages) = true
admits_read Memory = true
admits_read _ = false

-- the fault that such a space keeps, where there is one, is one of these
abbrev pub KeepsOwn : Option SpaceFault → Type 0
KeepsOwn refusal = ForSome refusal (λ fault. IsTrue (admits_read fault))
