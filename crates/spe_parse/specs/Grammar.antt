-- The grammar of one statement. (This project's own.)
use Rattle.std.specs.Prelude.{ℕ, Bool, true, false, ◌&&◌, List, [], ◌∷◌, length, drop, Option, Some, None, Result, Ok, Err, codes, if◌then◌else◌}
use Rattle.spe_model.specs.declared.statement.Cond.{Cond}
use Rattle.spe_model.specs.declared.statement.Statement.{Statement}
use Rattle.spe_model.specs.declared.statement.Statement.TheVariants.{Select, Count, Insert, Update, Delete}
use Rattle.spe_model.specs.declared.token.SqlFault.{SqlFault}
use Rattle.spe_model.specs.declared.token.SqlKind.TheVariants.{Token, Expected}
use Rattle.spe_model.specs.Definition.{is_word, is_sign}
use Rattle.spe_model.specs.Token.{Lexeme}
use Rattle.spe_lex.specs.Front.{front_of}
use Rattle.spe_parse.specs.declared.halt.Halt.{Halt}
use Rattle.spe_parse.specs.declared.halt.Halt.TheVariants.{Fault}
use Rattle.spe_parse.specs.Part.{Part, ◌>>=◌, refused, stands, after, name_at, listed, enclosed}
use Rattle.spe_parse.specs.Number.{literal_at}
use Rattle.spe_parse.specs.Clause.{where_at, set_at}

-- the table behind FROM, and the conditions on its rows
unfoldable pub from_at : List Lexeme → Part (List ℕ × List Cond)
from_at xs = do
  from ← after (is_word (codes "FROM")) xs
  table ← name_at from
  conds ← where_at table.1
  Ok ((table.0, conds.0), conds.1)

-- COUNT without quotes, and a parenthesis behind it
abbrev pub stands_count : List Lexeme → Bool
stands_count xs = stands (is_word (codes "COUNT")) xs && stands (is_sign (codes "(")) (drop 1 xs)

-- behind `COUNT (`
unfoldable pub count_at : List Lexeme → Part Statement
count_at xs = do
  star ← after (is_sign (codes "*")) xs
  close ← after (is_sign (codes ")")) star
  from ← from_at close
  Ok (Count from.0.0 from.0.1, from.1)

-- whether all columns are shown, and otherwise which
unfoldable pub columns_at : List Lexeme → Part (Bool × List (List ℕ))
columns_at xs =
    if stands (is_sign (codes "*")) xs then Ok ((true, []), drop 1 xs)
    else (listed name_at xs >>= λ names. Ok ((false, names.0), names.1))

unfoldable pub shown_at : List Lexeme → Part Statement
shown_at xs = do
  columns ← columns_at xs
  from ← from_at columns.1
  Ok (Select from.0.0 columns.0.0 columns.0.1 from.0.1, from.1)

-- behind SELECT
unfoldable pub select_at : List Lexeme → Part Statement
select_at xs = if stands_count xs then count_at (drop 2 xs) else shown_at xs

-- whether names are listed, and which
unfoldable pub targets_at : List Lexeme → Part (Bool × List (List ℕ))
targets_at xs =
    if stands (is_sign (codes "(")) xs then (enclosed name_at xs >>= λ names. Ok ((true, names.0), names.1)) else Ok ((false, []), xs)

-- behind INSERT
unfoldable pub insert_at : List Lexeme → Part Statement
insert_at xs = do
  into ← after (is_word (codes "INTO")) xs
  table ← name_at into
  targets ← targets_at table.1
  behind ← after (is_word (codes "VALUES")) targets.1
  fields ← enclosed literal_at behind
  Ok (Insert table.0 targets.0.0 targets.0.1 fields.0, fields.1)

-- behind UPDATE
unfoldable pub update_at : List Lexeme → Part Statement
update_at xs = do
  table ← name_at xs
  behind ← after (is_word (codes "SET")) table.1
  sets ← listed set_at behind
  conds ← where_at sets.1
  Ok (Update table.0 sets.0 conds.0, conds.1)

-- behind DELETE
unfoldable pub delete_at : List Lexeme → Part Statement
delete_at xs = do
  from ← from_at xs
  Ok (Delete from.0.0 from.0.1, from.1)

-- a statement
unfoldable pub statement_at : List Lexeme → Part Statement
statement_at [] = refused []
statement_at (x ∷ xs) =
    if is_word (codes "SELECT") x then select_at xs
    else (if is_word (codes "INSERT") x then insert_at xs
    else (if is_word (codes "UPDATE") x then update_at xs
    else (if is_word (codes "DELETE") x then delete_at xs
    else refused (x ∷ xs))))

abbrev pub past_semicolon : List Lexeme → List Lexeme
past_semicolon xs = if stands (is_sign (codes ";")) xs then drop 1 xs else xs

-- this, where nothing is left
abbrev pub if_nothing : {A : Type 0} → A → List Lexeme → Result A Halt
if_nothing found [] = Ok found
if_nothing found (x ∷ xs) = refused (x ∷ xs)

-- one statement, which a `;` may end, with nothing behind it
unfoldable pub sole_at : List Lexeme → Result Statement Halt
sole_at xs = do
  found ← statement_at xs
  if_nothing found.0 (past_semicolon found.1)

-- the fault where the tokens of a text end: there is no more text, or no token stands there
abbrev pub end_fault : ℕ → Option ℕ → SqlFault
end_fault size None = record { at = size; kind = Expected }
end_fault size (Some at) = record { at = at; kind = Token }

abbrev pub fault_of : ℕ → Option ℕ → Halt → SqlFault
fault_of size unread (Fault fault) = fault
fault_of size unread _ = end_fault size unread

-- a statement is found only where all of the text is read
abbrev pub answer_of : ℕ → Option ℕ → Result Statement Halt → Result Statement SqlFault
answer_of size unread (Err halt) = Err (fault_of size unread halt)
answer_of size None (Ok statement) = Ok statement
answer_of size (Some at) (Ok statement) = Err (end_fault size (Some at))

-- the statement that a text is, or its first fault
abbrev pub statement_of : List ℕ → Result Statement SqlFault
statement_of text = answer_of (length text) (front_of text).1 (sole_at (front_of text).0)
