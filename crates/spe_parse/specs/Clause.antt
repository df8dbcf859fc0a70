-- Conditions and clauses.
use Rattle.std.specs.Prelude.{ℕ, List, [], ◌∷◌, drop, Option, Some, None, Ok, codes, if◌then◌else◌}
use Rattle.spe_model.specs.declared.statement.Cond.{Cond}
use Rattle.spe_model.specs.declared.statement.Op.{Op}
use Rattle.spe_model.specs.declared.statement.Op.TheVariants.{Equal, Less, LessEqual, Greater, GreaterEqual}
use Rattle.spe_model.specs.declared.statement.Set.{Set}
use Rattle.spe_model.specs.Definition.{is_word, is_sign}
use Rattle.spe_model.specs.Token.{Lexeme}
use Rattle.spe_parse.specs.Part.{Part, ◌>>=◌, refused, stands, after, name_at, parts_at}
use Rattle.spe_parse.specs.Number.{integer_at, literal_at}

-- the comparison that a sign stands for
unfoldable pub op_of : Lexeme → Option Op
op_of x =
    if is_sign (codes "=") x then Some Equal
    else (if is_sign (codes "<") x then Some Less
    else (if is_sign (codes "<=") x then Some LessEqual
    else (if is_sign (codes ">") x then Some Greater
    else (if is_sign (codes ">=") x then Some GreaterEqual else None))))

abbrev pub op_before : Option Op → Lexeme → List Lexeme → Part Op
op_before (Some op) x xs = Ok (op, xs)
op_before None x xs = refused (x ∷ xs)

abbrev pub op_at : List Lexeme → Part Op
op_at [] = refused []
op_at (x ∷ xs) = op_before (op_of x) x xs

-- a comparison of this name with a number
unfoldable pub comparison_at : List ℕ → List Lexeme → Part (List Cond)
comparison_at name xs = do
  op ← op_at xs
  number ← integer_at op.1
  Ok (record { name = name; op = op.0; number = number.0 } ∷ [], number.1)

-- the two bounds of this name, which both belong to what is between them
unfoldable pub bounds_at : List ℕ → List Lexeme → Part (List Cond)
bounds_at name xs = do
  low ← integer_at xs
  rest ← after (is_word (codes "AND")) low.1
  high ← integer_at rest
  Ok (record { name = name; op = GreaterEqual; number = low.0 } ∷ record { name = name; op = LessEqual; number = high.0 } ∷ [], high.1)

-- a condition; BETWEEN makes two of it
unfoldable pub cond_at : List Lexeme → Part (List Cond)
cond_at xs = do
  name ← name_at xs
  if stands (is_word (codes "BETWEEN")) name.1 then bounds_at name.0 (drop 1 name.1) else comparison_at name.0 name.1

-- conditions with AND between each two
abbrev pub conds_at : List Lexeme → Part (List Cond)
conds_at xs = parts_at (is_word (codes "AND")) cond_at xs

-- the conditions behind WHERE, which may be missing
unfoldable pub where_at : List Lexeme → Part (List Cond)
where_at xs = if stands (is_word (codes "WHERE")) xs then conds_at (drop 1 xs) else Ok ([], xs)

-- a name that is set to a literal
unfoldable pub set_at : List Lexeme → Part Set
set_at xs = do
  name ← name_at xs
  rest ← after (is_sign (codes "=")) name.1
  value ← literal_at rest
  Ok (record { name = name.0; value = value.0 }, value.1)
