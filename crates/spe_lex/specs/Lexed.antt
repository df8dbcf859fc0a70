-- What the text of a token is, by its kind.
use Rattle.std.specs.Prelude.{◌≡◌, ℕ, ◌%◌, ◌<◌, true, List, length, drop}
use Rattle.std.specs.Char.{is_ascii_digit, is_ascii_hexdigit}
use Rattle.std.specs.List.{list_all}
use Rattle.std.specs.Str.{IsUtf8}
use Rattle.spe_model.specs.declared.token.TokenKind.{TokenKind}
use Rattle.spe_model.specs.declared.token.TokenKind.TheVariants.{Blob, Number}
use Rattle.spe_model.specs.Token.{inner, unquoted}

-- pairs of hexadecimal digits
pub record AreHexPairs (digits : List ℕ) : Type 0 where
  pub pairs : length digits % 2 ≡ 0
  pub all : list_all is_ascii_hexdigit digits ≡ true

-- one decimal digit or more
pub record AreDigits (text : List ℕ) : Type 0 where
  pub some : 0 < length text
  pub all : list_all is_ascii_digit text ≡ true

-- a token's text: without its quotes it is text too, that of a blob is made of pairs of digits, and that of a number of digits
pub record IsSound (kind : TokenKind) (text : List ℕ) : Type 0 where
  pub meant : IsUtf8 (unquoted text)
  pub digits : kind ≡ Blob → AreHexPairs (inner (drop 1 text))
  pub decimal : kind ≡ Number → AreDigits text
