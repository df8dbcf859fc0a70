-- Answers of a search that stops where there is nothing, or where memory runs out.
use Rattle.std.specs.Prelude.{◌≡◌, Option, Some, None, Result, Ok, Err}
use Rattle.spe_catalog.specs.declared.miss.Miss.{Miss}
use Rattle.spe_catalog.specs.declared.miss.Miss.TheVariants.{Unknown, Memory}
use Rattle.spe_model.specs.declared.token.SqlKind.{SqlKind}
use Rattle.spe_model.specs.declared.token.SqlKind.TheVariants as kinds

abbrev pub Misses : {Y : Type 0} → Miss → Option Y → Type 0
Misses Unknown found = found ≡ None
Misses Memory found = Unit {0}

-- what was answered is what is found, unless memory ran out
abbrev pub FindsDeclared : {X Y : Type 0} → (X → Y) → Result X Miss → Option Y → Type 0
FindsDeclared view (Ok x) found = found ≡ Some (view x)
FindsDeclared view (Err miss) found = Misses miss found

-- what a fault of the text makes of an answer
abbrev pub of_sql : SqlKind → Miss
of_sql kinds.Memory = Memory
of_sql _ = Unknown
