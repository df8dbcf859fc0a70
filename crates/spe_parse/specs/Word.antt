-- The words of statements. (This project's own.)
use Rattle.std.specs.Prelude.{ℕ, Bool, true, false, not, ◌||◌, List, [], ◌∷◌, codes}
use Rattle.std.specs.List.{list_any}
use Rattle.spe_model.specs.declared.token.TokenKind.{TokenKind}
use Rattle.spe_model.specs.declared.token.TokenKind.TheVariants.{Word, QuotedName, Str, Blob, Fraction}
use Rattle.spe_model.specs.Agree.{agree}
use Rattle.spe_model.specs.Token.{Lexeme}

abbrev pub is_string : TokenKind → Bool
is_string Str = true
is_string _ = false

abbrev pub is_blob : TokenKind → Bool
is_blob Blob = true
is_blob _ = false

abbrev pub is_fraction : TokenKind → Bool
is_fraction Fraction = true
is_fraction _ = false

-- the words that statements and scripts are made of
abbrev pub grammar_words : List (List ℕ)
grammar_words =
    codes "AND" ∷ codes "BEGIN" ∷ codes "BETWEEN" ∷ codes "COMMIT" ∷ codes "DELETE" ∷ codes "END" ∷ codes "FROM" ∷ codes "INSERT" ∷ codes "INTO"
    ∷ codes "NULL" ∷ codes "ROLLBACK" ∷ codes "SELECT" ∷ codes "SET" ∷ codes "UPDATE" ∷ codes "VALUES" ∷ codes "WHERE" ∷ []

-- The words of SQL that are left out: those that begin other statements, those of longer queries, of joins, of
-- expressions, and of clauses.
abbrev pub statement_words : List (List ℕ)
statement_words =
    codes "ALTER" ∷ codes "ANALYZE" ∷ codes "ATTACH" ∷ codes "CREATE" ∷ codes "DETACH" ∷ codes "DROP" ∷ codes "EXPLAIN" ∷ codes "PRAGMA"
    ∷ codes "REINDEX" ∷ codes "RELEASE" ∷ codes "REPLACE" ∷ codes "SAVEPOINT" ∷ codes "VACUUM" ∷ []

abbrev pub query_words : List (List ℕ)
query_words =
    codes "AS" ∷ codes "DISTINCT" ∷ codes "EXCEPT" ∷ codes "GROUP" ∷ codes "HAVING" ∷ codes "INDEXED" ∷ codes "INTERSECT" ∷ codes "LIMIT"
    ∷ codes "OFFSET" ∷ codes "ORDER" ∷ codes "UNION" ∷ codes "WITH" ∷ []

abbrev pub join_words : List (List ℕ)
join_words = codes "CROSS" ∷ codes "INNER" ∷ codes "JOIN" ∷ codes "LEFT" ∷ codes "NATURAL" ∷ codes "ON" ∷ []

abbrev pub expression_words : List (List ℕ)
expression_words =
    codes "CASE" ∷ codes "CAST" ∷ codes "EXISTS" ∷ codes "IN" ∷ codes "IS" ∷ codes "LIKE" ∷ codes "NOT" ∷ codes "OR" ∷ []

abbrev pub clause_words : List (List ℕ)
clause_words = codes "DEFAULT" ∷ codes "DEFERRED" ∷ codes "EXCLUSIVE" ∷ codes "IMMEDIATE" ∷ codes "RETURNING" ∷ []

-- one of these, in any case
unfoldable pub is_among : List (List ℕ) → List ℕ → Bool
is_among words text = list_any (agree text) words

abbrev pub is_left_out_word : List ℕ → Bool
is_left_out_word text =
    is_among statement_words text || is_among query_words text || is_among join_words text || is_among expression_words text || is_among clause_words text

-- a fraction, or a word that is left out and stands without quotes
abbrev pub is_left_out_if : TokenKind → Bool → Bool
is_left_out_if Fraction word = true
is_left_out_if Word word = word
is_left_out_if _ word = false

unfoldable pub is_left_out : Lexeme → Bool
is_left_out x = is_left_out_if x.kind (is_left_out_word x.text)

-- a quoted name, or a word that is none of those above
abbrev pub is_name_if : TokenKind → Bool → Bool
is_name_if QuotedName free = true
is_name_if Word free = free
is_name_if _ free = false

unfoldable pub is_name : Lexeme → Bool
is_name x = is_name_if x.kind (not (is_among grammar_words x.text || is_left_out_word x.text))
