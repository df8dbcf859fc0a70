-- The free pages of pages that stand for a database.
use Rattle.std.specs.Prelude.{ℕ, Result, Ok, Err, Vec}
use Rattle.std.specs.declared.alloc.Global.{Global}
use Rattle.spe_model.specs.Database.{Database}
use Rattle.spe_model.specs.Paging.{Paging}
use Rattle.spe_model.specs.Standing.{StandsFor}
use Rattle.spe_frame.specs.Times.{AreSame}
use Rattle.spe_convert.specs.declared.fault.ConvertFault.{ConvertFault}
use Rattle.spe_convert.specs.declared.fault.ConvertFault.TheVariants.{Corrupt}

-- damage is found where pages do not stand alone
abbrev pub IsDamage : (usable count : ℕ) → ConvertFault → Paging → Type 0
IsDamage usable count (Corrupt page) pages = (db : Database) → StandsFor usable count pages db → ⊥
IsDamage usable count fault pages = Unit {0}

-- the numbers are all free pages of pages that stand, the node page among them; and where pages stand there is no damage
abbrev pub FindsFree : (usable count : ℕ) → Result (Vec ℕ Global) ConvertFault → Paging → Type 0
FindsFree usable count (Ok free) pages = (db : Database) (stands : StandsFor usable count pages db) → AreSame free.items stands.listed
FindsFree usable count (Err fault) pages = IsDamage usable count fault pages
