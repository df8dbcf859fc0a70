-- What reading a text answers, given what the text is. Memory may run out at any time.
use Rattle.std.specs.Prelude.{◌≡◌, Result, Ok, Err}
use Rattle.spe_model.specs.declared.token.SqlFault.{SqlFault}
use Rattle.spe_model.specs.declared.token.SqlKind.{SqlKind}
use Rattle.spe_model.specs.declared.token.SqlKind.TheVariants.{Memory}

abbrev pub IsFaultOf : {X : Type 0} → SqlKind → SqlFault → Result X SqlFault → Type 0
IsFaultOf Memory fault reading = Unit {0}
IsFaultOf kind fault reading = reading ≡ Err fault

-- the answer, seen so, is what reading gives, or want of memory
abbrev pub IsReading : {X Y : Type 0} → (X → Y) → Result X SqlFault → Result Y SqlFault → Type 0
IsReading view (Ok x) reading = reading ≡ Ok (view x)
IsReading view (Err fault) reading = IsFaultOf fault.kind fault reading
