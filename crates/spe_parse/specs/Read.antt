-- What reading a part answers, given what stands there. Memory may run out at any time.
use Rattle.std.specs.Prelude.{◌≡◌, Result, Ok, Err}
use Rattle.spe_parse.specs.declared.halt.Halt.{Halt}
use Rattle.spe_parse.specs.declared.halt.Halt.TheVariants.{Memory}

abbrev pub IsHaltOf : {A : Type 0} → Halt → Result A Halt → Type 0
IsHaltOf Memory reading = Unit {0}
IsHaltOf halt reading = reading ≡ Err halt

-- the answer, seen so, is the part that stands there, or why none does, or want of memory
abbrev pub IsPart : {A B : Type 0} → (A → B) → Result A Halt → Result B Halt → Type 0
IsPart view (Ok x) reading = reading ≡ Ok (view x)
IsPart view (Err halt) reading = IsHaltOf halt reading
