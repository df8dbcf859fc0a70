-- The text of a declared type, word by word.
use Rattle.std.specs.Prelude.{ℕ, List, [], ◌∷◌, ◌++◌}
use Rattle.std.specs.Str.{byte, str_to_ascii_uppercase}
use Rattle.spe_model.specs.Token.{Lexeme, unquoted}

-- what a word means, in capitals
abbrev pub capitals : Lexeme → List ℕ
capitals word = str_to_ascii_uppercase (unquoted word.text)

-- a blank before each word
abbrev pub behind_blanks : List Lexeme → List ℕ
behind_blanks [] = []
behind_blanks (word ∷ words) = byte " " ∷ capitals word ++ behind_blanks words
