-- The texts that define tables: the part of SQLite's CREATE TABLE that this project understands.
use Rattle.std.specs.Prelude.{ℕ, zero, suc, Bool, true, false, not, ◌&&◌, ◌||◌, ◌==◌, nat_le, nat_eq, List, [], ◌∷◌, length, take, drop, map, Option, Some, None, is_some, codes, if◌then◌else◌}
use Rattle.std.specs.List.{list_any, prefix_len, filter, starts_with, join_with_byte}
use Rattle.std.specs.Option.{option_map, option_or}
use Rattle.std.specs.Result.{result_ok}
use Rattle.std.specs.Str.{bytes_eq, byte, str_to_ascii_uppercase}
use Rattle.spe_model.specs.Agree.{agree}
use Rattle.spe_model.specs.declared.token.TokenKind.{TokenKind}
use Rattle.spe_model.specs.declared.token.TokenKind.TheVariants.{Word, QuotedName, Str, Number, Sign}
use Rattle.spe_model.specs.declared.table.Affinity.{Affinity}
use Rattle.spe_model.specs.declared.table.Affinity.TheVariants as affinities
use Rattle.spe_model.specs.declared.table.Column.{Column}
use Rattle.spe_model.specs.declared.catalog.Declaration.{Declaration}
use Rattle.spe_model.specs.Cell.{◌>>=◌}
use Rattle.spe_model.specs.Token.{Lexeme, lexemes_of, unquoted}

-- no two of these have names that agree
abbrev pub are_distinct : List (List ℕ) → Bool
are_distinct [] = true
are_distinct (name ∷ names) = not (list_any (agree name) names) && are_distinct names

abbrev pub is_bare : TokenKind → Bool
is_bare Word = true
is_bare _ = false

abbrev pub is_a_sign : TokenKind → Bool
is_a_sign Sign = true
is_a_sign _ = false

abbrev pub is_digits : TokenKind → Bool
is_digits Number = true
is_digits _ = false

-- this word without quotes, in any case
unfoldable pub is_word : List ℕ → Lexeme → Bool
is_word word x = is_bare x.kind && agree x.text word

unfoldable pub is_sign : List ℕ → Lexeme → Bool
is_sign sign x = is_a_sign x.kind && bytes_eq x.text sign

abbrev pub is_number : Lexeme → Bool
is_number x = is_digits x.kind

-- what follows a token of this kind at the front
abbrev pub after : (Lexeme → Bool) → List Lexeme → Option (List Lexeme)
after test [] = None
after test (x ∷ xs) = if test x then Some xs else None

-- the words that are no names unless they are quoted
abbrev pub reserved_words : List (List ℕ)
reserved_words =
    codes "AS" ∷ codes "ASC" ∷ codes "CHECK" ∷ codes "COLLATE" ∷ codes "CONSTRAINT" ∷ codes "DEFAULT" ∷ codes "FOREIGN" ∷ codes "GENERATED"
    ∷ codes "KEY" ∷ codes "NOT" ∷ codes "NULL" ∷ codes "PRIMARY" ∷ codes "REFERENCES" ∷ codes "UNIQUE" ∷ []

unfoldable pub is_reserved : List ℕ → Bool
is_reserved word = list_any (agree word) reserved_words

-- a quoted name, a string, or a word that is not reserved
abbrev pub is_name_if : TokenKind → Bool → Bool
is_name_if QuotedName free = true
is_name_if Str free = true
is_name_if Word free = free
is_name_if _ free = false

unfoldable pub is_name : Lexeme → Bool
is_name x = is_name_if x.kind (not (is_reserved x.text))

-- a name, and what follows it
abbrev pub name_at : List Lexeme → Option (List ℕ × List Lexeme)
name_at [] = None
name_at (x ∷ xs) = if is_name x then Some (unquoted x.text, xs) else None

-- what follows a whole number, which may have a sign
abbrev pub after_integer : List Lexeme → Option (List Lexeme)
after_integer [] = None
after_integer (x ∷ xs) =
    if is_number x then Some xs else (if is_sign (codes "-") x || is_sign (codes "+") x then after is_number xs else None)

-- what follows one or two lengths in parentheses
unfoldable pub after_lengths : List Lexeme → Option (List Lexeme)
after_lengths xs = do
  inside ← after (is_sign (codes "(")) xs
  rest ← after_integer inside
  option_or (after (is_sign (codes ")")) rest) (after (is_sign (codes ",")) rest >>= after_integer >>= after (is_sign (codes ")")))

-- a declared type: its names, one after the other, and whether lengths follow them
pub record DeclaredType : Type 0 where
  pub words : List Lexeme
  pub has_lengths : Bool

-- whether lengths stand at the front, and what follows them
abbrev pub lengths_at : List Lexeme → Option (Bool × List Lexeme)
lengths_at xs = if is_some (after (is_sign (codes "(")) xs) then option_map (λ rest. (true, rest)) (after_lengths xs) else Some (false, xs)

-- a type, which may be missing, and what follows it
unfoldable pub type_at : List Lexeme → Option (DeclaredType × List Lexeme)
type_at xs =
    if prefix_len is_name xs == 0 then Some (record { words = []; has_lengths = false }, xs) else do
      lengths ← lengths_at (drop (prefix_len is_name xs) xs)
      Some (record { words = take (prefix_len is_name xs) xs; has_lengths = lengths.0 }, lengths.1)

abbrev pub is_only : (Lexeme → Bool) → List Lexeme → Bool
is_only test [] = false
is_only test (x ∷ []) = test x
is_only test (x ∷ y ∷ xs) = false

-- the type is the one word INTEGER, without quotes and lengths
abbrev pub is_rowid_type : DeclaredType → Bool
is_rowid_type declared = is_only (is_word (codes "INTEGER")) declared.words && not declared.has_lengths

-- a text has another in it
abbrev pub has_part : List ℕ → List ℕ → Bool
has_part part [] = starts_with nat_eq [] part
has_part part (b ∷ rest) = starts_with nat_eq (b ∷ rest) part || has_part part rest

-- the words in capitals, a blank between each two
abbrev pub type_text : List Lexeme → List ℕ
type_text words = join_with_byte (byte " ") (map (λ (x : Lexeme). str_to_ascii_uppercase (unquoted x.text)) words)

unfoldable pub affinity_in : List ℕ → Affinity
affinity_in text =
    if has_part (codes "INT") text then affinities.Integer
    else (if has_part (codes "CHAR") text || has_part (codes "CLOB") text || has_part (codes "TEXT") text then affinities.Text
    else (if has_part (codes "BLOB") text then affinities.Blob
    else (if has_part (codes "REAL") text || has_part (codes "FLOA") text || has_part (codes "DOUB") text then affinities.Real
    else affinities.Numeric)))

-- the affinity of a column ("Determination Of Column Affinity" in SQLite's documents)
abbrev pub affinity_of : List Lexeme → Affinity
affinity_of [] = affinities.Blob
affinity_of (x ∷ xs) = affinity_in (type_text (x ∷ xs))

-- the words that constraints are made of
pub data Mark : Type 0 where
  Not : Mark
  Null : Mark
  Primary : Mark
  Key : Mark
  Asc : Mark

unfoldable pub mark_of : Lexeme → Option Mark
mark_of x =
    if is_word (codes "NOT") x then Some Not
    else (if is_word (codes "NULL") x then Some Null
    else (if is_word (codes "PRIMARY") x then Some Primary
    else (if is_word (codes "KEY") x then Some Key
    else (if is_word (codes "ASC") x then Some Asc else None))))

abbrev pub before_marks : Option Mark → List Mark → List Mark
before_marks None marks = []
before_marks (Some mark) marks = mark ∷ marks

-- those that stand at the front
abbrev pub marks_at : List Lexeme → List Mark
marks_at [] = []
marks_at (x ∷ xs) = before_marks (mark_of x) (marks_at xs)

-- what the constraints of a column say of it
pub record Said : Type 0 where
  pub not_null : Bool
  pub is_key : Bool

abbrev pub with_not_null : Said → Option Said
with_not_null said = Some (record said { not_null = true })

-- a column is the primary key at most once
abbrev pub with_key : Said → Option Said
with_key said = if said.is_key then None else Some (record said { is_key = true })

-- what constraints say, which are NOT NULL, NULL, and PRIMARY KEY with or without ASC
abbrev pub said_by : List Mark → Option Said
said_by [] = Some (record { not_null = false; is_key = false })
said_by (Null ∷ rest) = said_by rest
said_by (Not ∷ Null ∷ rest) = said_by rest >>= with_not_null
said_by (Primary ∷ Key ∷ Asc ∷ rest) = said_by rest >>= with_key
said_by (Primary ∷ Key ∷ rest) = said_by rest >>= with_key
said_by _ = None

-- a column, and whether it is the rowid
abbrev pub Field : Type 0
Field = Column × Bool

abbrev pub is_alias : Field → Bool
is_alias field = field.1

-- a column of this name
abbrev pub field_of : List ℕ → DeclaredType → Said → Field
field_of name declared said = (record { name = name; affinity = affinity_of declared.words; not_null = said.not_null }, said.is_key)

-- only a column of the type INTEGER may be the primary key: it is the rowid
abbrev pub is_fit : DeclaredType → Said → Bool
is_fit declared said = not said.is_key || is_rowid_type declared

-- a column and what follows it
unfoldable pub column_at : List Lexeme → Option (Field × List Lexeme)
column_at xs = do
  name ← name_at xs
  declared ← type_at name.1
  said ← said_by (marks_at declared.1)
  if is_fit declared.0 said then Some (field_of name.0 declared.0 said, drop (length (marks_at declared.1)) declared.1) else None

-- no columns, where the parenthesis stands that ends the text
abbrev pub end_at : List Lexeme → Option (List Field)
end_at xs = do
  rest ← after (is_sign (codes ")")) xs
  if length rest == 0 then Some [] else None

-- columns with commas between them, at most so many, up to the parenthesis that ends the text
abbrev pub columns_at : ℕ → List Lexeme → Option (List Field)
columns_at zero xs = None
columns_at (suc n) xs = do
  first ← column_at xs
  others ← option_or (end_at first.1) (after (is_sign (codes ",")) first.1 >>= columns_at n)
  Some (first.0 ∷ others)

-- the place of the first that passes
abbrev pub place_of : {X : Type 0} → (X → Bool) → List X → Option ℕ
place_of test [] = None
place_of test (x ∷ xs) = if test x then Some 0 else option_map suc (place_of test xs)

-- what fields declare, of which at most one may be the rowid
abbrev pub declaration_from : List Field → Option Declaration
declaration_from fields =
    if nat_le (length (filter is_alias fields)) 1 then Some (record { columns = map (λ (f : Field). f.0) fields; alias = place_of is_alias fields })
    else None

-- what the tokens of a definition declare, or None where it is not understood; its own name counts for nothing
unfoldable pub table_at : List Lexeme → Option Declaration
table_at xs = do
  create ← after (is_word (codes "CREATE")) xs
  table ← after (is_word (codes "TABLE")) create
  name ← name_at table
  inside ← after (is_sign (codes "(")) name.1
  fields ← columns_at (length inside) inside
  declaration_from fields

-- what a text declares, or None where it is no definition that is understood
abbrev pub declaration_of : List ℕ → Option Declaration
declaration_of sql = result_ok (lexemes_of sql) >>= table_at

-- the names of columns
abbrev pub names_of : List Column → List (List ℕ)
names_of columns = map (λ (c : Column). c.name) columns
