-- The columns of a definition, one after the other.
use Rattle.std.specs.Prelude.{◌≡◌, ℕ, Bool, true, false, List, [], ◌∷◌, ◌++◌, length, Option, Some, None, Result, Ok, Err, is_some, if◌then◌else◌}
use Rattle.spe_model.specs.declared.table.Column.{Column}
use Rattle.spe_model.specs.declared.catalog.Declaration.{Declaration}
use Rattle.spe_model.specs.Token.{Lexeme}
use Rattle.spe_model.specs.Cell.{◌>>=◌}
use Rattle.spe_model.specs.Definition.{Field, columns_at}
use Rattle.spe_catalog.specs.declared.miss.Miss.{Miss}
use Rattle.spe_catalog.specs.declared.miss.Miss.TheVariants.{Unknown, Memory}

-- what a column makes of the place of the rowid's, behind these columns
abbrev pub NextAlias : List Column → Option ℕ → Bool → Option ℕ → Type 0
NextAlias columns alias true next = (alias ≡ None) × (next ≡ Some (length columns))
NextAlias columns alias false next = next ≡ alias

abbrev pub PlacesAlias : List Column → Option ℕ → Bool → Result (Option ℕ) Miss → Type 0
PlacesAlias columns alias flag (Ok next) = NextAlias columns alias flag next
PlacesAlias columns alias flag (Err Unknown) = (flag ≡ true) × (is_some alias ≡ true)
PlacesAlias columns alias flag (Err Memory) = Unit {0}

-- what these fields declare behind columns before them, of which at most one is the rowid
abbrev pub joined : List Column → Option ℕ → List Field → Option Declaration
joined columns alias [] = Some (record { columns = columns; alias = alias })
joined columns alias (f ∷ fs) =
    if f.1 then (if is_some alias then None else joined (columns ++ f.0 ∷ []) (Some (length columns)) fs)
    else joined (columns ++ f.0 ∷ []) alias fs

-- what the columns at the front declare, of which there are at most so many, behind columns before them
abbrev pub all_columns : List Column → Option ℕ → (n : ℕ) → List Lexeme → Option Declaration
all_columns columns alias n xs = columns_at n xs >>= joined columns alias
