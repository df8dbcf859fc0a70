-- The tokens of SQL text, as far as this project reads it. A text is UTF-8, and each byte of a character past ASCII is
-- past ASCII too: all of them count as letters.
use Rattle.std.specs.Prelude.{ℕ, zero, suc, ◌+◌, ◌-◌, ◌*◌, ◌%◌, ◌≤◌, ◌<◌, Bool, false, not, ◌&&◌, ◌||◌, ◌==◌, nat_le, List, [], ◌∷◌, length, take, drop, map, codes, Option, Some, None, Result, Ok, Err, if◌then◌else◌}
use Rattle.std.specs.Char.{is_ascii_whitespace, is_ascii_alphabetic, is_ascii_digit, is_ascii_hexdigit, digit_value}
use Rattle.std.specs.List.{list_any, prefix_len}
use Rattle.std.specs.Option.{option_map}
use Rattle.std.specs.Str.{byte}
use Rattle.spe_model.specs.declared.token.TokenKind.{TokenKind}
use Rattle.spe_model.specs.declared.token.TokenKind.TheVariants.{Word, QuotedName, Str, Blob, Number, Fraction, Sign}
use Rattle.spe_model.specs.declared.token.Token.{Token}
use Rattle.spe_model.specs.declared.token.SqlFault.{SqlFault}
use Rattle.spe_model.specs.declared.token.SqlKind.TheVariants as faults

-- a token with its bytes, and the place of the first of them
pub record Lexeme : Type 0 where
  pub kind : TokenKind
  pub at : ℕ
  pub text : List ℕ

-- the text goes on with this byte
abbrev pub begins_with : ℕ → List ℕ → Bool
begins_with b [] = false
begins_with b (c ∷ rest) = c == b

-- a letter, `_` or a byte past ASCII
abbrev pub begins_word : ℕ → Bool
begins_word b = is_ascii_alphabetic b || (b == byte "_") || nat_le 128 b

abbrev pub continues_word : ℕ → Bool
continues_word b = begins_word b || is_ascii_digit b || (b == byte "$")

abbrev pub continues_fraction : ℕ → Bool
continues_fraction b = begins_word b || is_ascii_digit b || (b == byte ".")

-- a point or an `e` behind digits makes a fraction of them
abbrev pub begins_fraction : List ℕ → Bool
begins_fraction [] = false
begins_fraction (b ∷ rest) = (b == byte ".") || (b == byte "e") || (b == byte "E")

abbrev pub is_not_line_feed : ℕ → Bool
is_not_line_feed b = not (b == 10)

abbrev pub is_sign : ℕ → Bool
is_sign b = list_any (λ s. b == s) (codes ";,()*=<>-+")

abbrev pub further : ℕ → Option ℕ → Option ℕ
further n more = option_map (λ m. n + m) more

-- how long the text is up to the first `*/`, with that, or up to its end
abbrev pub through_comment : List ℕ → ℕ
through_comment [] = 0
through_comment (b ∷ []) = 1
through_comment (b ∷ c ∷ rest) = if (b == byte "*") && (c == byte "/") then 2 else 1 + through_comment (c ∷ rest)

-- how many bytes stand before the quote that closes a text, where a doubled quote stands for one; None where none closes it
abbrev pub before_quote : ℕ → List ℕ → Option ℕ
before_quote quote [] = None
before_quote quote (b ∷ []) = if b == quote then Some 0 else None
before_quote quote (b ∷ c ∷ rest) =
    if b == quote then (if c == quote then further 2 (before_quote quote rest) else Some 0) else further 1 (before_quote quote (c ∷ rest))

-- how many bytes stand before the bracket that closes a name
abbrev pub before_bracket : List ℕ → Option ℕ
before_bracket [] = None
before_bracket (b ∷ rest) = if b == byte "]" then Some 0 else further 1 (before_bracket rest)

-- how many hexadecimal digits stand before the quote that closes a blob, where they are pairs and nothing else stands there
unfoldable pub before_blob_end : List ℕ → Option ℕ
before_blob_end text =
    let digits = prefix_len is_ascii_hexdigit text in
    if (digits % 2 == 0) && begins_with (byte "'") (drop digits text) then Some digits else None

-- What stands in a text: a token of a kind, or None for blanks and comments, which count for nothing; and how many bytes it has.
abbrev pub Piece : Type 0
Piece = Option TokenKind × ℕ

abbrev pub gap : ℕ → Option Piece
gap n = Some (None, n)

abbrev pub token : TokenKind → ℕ → Option Piece
token kind n = Some (Some kind, n)

-- a token of so many bytes between two quotes
abbrev pub quoted : TokenKind → Option ℕ → Option Piece
quoted kind None = None
quoted kind (Some n) = token kind (n + 2)

-- a name between two quotes, which is not empty
abbrev pub quoted_name : Option ℕ → Option Piece
quoted_name None = None
quoted_name (Some n) = if n == 0 then None else token QuotedName (n + 2)

abbrev pub blob : Option ℕ → Option Piece
blob None = None
blob (Some n) = token Blob (n + 3)

-- digits, with what makes a fraction of them
unfoldable pub number : List ℕ → Option Piece
number text =
    let digits = prefix_len is_ascii_digit text in
    if begins_fraction (drop digits text) then token Fraction (prefix_len continues_fraction text) else token Number digits

-- a comparison with `=` in it, or one sign
unfoldable pub sign : ℕ → List ℕ → Option Piece
sign b rest =
    if ((b == byte "<") || (b == byte ">")) && begins_with (byte "=") rest then token Sign 2
    else (if is_sign b then token Sign 1 else None)

-- a string, or a name in quotes or brackets
unfoldable pub quotation : ℕ → List ℕ → Option Piece
quotation b rest =
    if b == byte "'" then quoted Str (before_quote b rest)
    else (if b == byte "[" then quoted_name (before_bracket rest) else quoted_name (before_quote b rest))

abbrev pub is_quote : ℕ → Bool
is_quote b = list_any (λ q. b == q) (codes "'[\"`")

-- The longest piece at the front of a text whose first byte is `b`, or None where none stands there. A line's comment ends
-- before its line feed; any other ends with the first `*/` behind its `/*`.
unfoldable pub piece_of : ℕ → List ℕ → Option Piece
piece_of b rest =
    if is_ascii_whitespace b then gap 1
    else (if (b == byte "-") && begins_with (byte "-") rest then gap (1 + prefix_len is_not_line_feed rest)
    else (if (b == byte "/") && begins_with (byte "*") rest then gap (2 + through_comment (drop 1 rest))
    else (if ((b == byte "x") || (b == byte "X")) && begins_with (byte "'") rest then blob (before_blob_end (drop 1 rest))
    else (if begins_word b then token Word (1 + prefix_len continues_word rest)
    else (if is_ascii_digit b then number (b ∷ rest)
    else (if is_quote b then quotation b rest
    else sign b rest))))))

abbrev pub map_ok : {X Y E : Type 0} → (X → Y) → Result X E → Result Y E
map_ok f (Ok x) = Ok (f x)
map_ok f (Err fault) = Err fault

-- a piece at this place, and the tokens that stand behind it, given how many bytes of it are left to pass
abbrev pub behind : (at : ℕ) → List ℕ → Option Piece → (ℕ → Result (List Lexeme) SqlFault) → Result (List Lexeme) SqlFault
behind at text None others = Err (record { at = at; kind = faults.Token })
behind at text (Some (None, n)) others = others (n - 1)
behind at text (Some (Some kind, n)) others = map_ok (λ xs. record { kind = kind; at = at; text = take n text } ∷ xs) (others (n - 1))

-- the tokens of the text that begins at this place, the first bytes of which are the rest of a piece
abbrev pub lexemes_from : (at passed : ℕ) → List ℕ → Result (List Lexeme) SqlFault
lexemes_from at passed [] = Ok []
lexemes_from at zero (b ∷ rest) = behind at (b ∷ rest) (piece_of b rest) (λ n. lexemes_from (at + 1) n rest)
lexemes_from at (suc passed) (b ∷ rest) = lexemes_from (at + 1) passed rest

-- The tokens of a text with their bytes. It is cut into pieces, each the longest at the front of what the ones before it
-- leave; the fault is at the first byte at which no piece stands.
abbrev pub lexemes_of : List ℕ → Result (List Lexeme) SqlFault
lexemes_of text = lexemes_from 0 0 text

abbrev pub token_of : Lexeme → Token
token_of x = record { kind = x.kind; at = x.at; length = length x.text }

-- the tokens of a text, by their places
abbrev pub tokens_of : List ℕ → Result (List Token) SqlFault
tokens_of text = map_ok (map token_of) (lexemes_of text)

-- tokens that follow one another from one place up to another, none of them empty
abbrev pub AreSpans : (low high : ℕ) → List Token → Type 0
AreSpans low high [] = low ≤ high
AreSpans low high (t ∷ ts) = (low ≤ t.at) × (0 < t.length) × AreSpans (t.at + t.length) high ts

-- a text without its first and its last byte
abbrev pub inner : List ℕ → List ℕ
inner text = take (length text - 2) (drop 1 text)

-- each doubled quote stands for one
abbrev pub undoubled : ℕ → List ℕ → List ℕ
undoubled quote [] = []
undoubled quote (b ∷ []) = b ∷ []
undoubled quote (b ∷ c ∷ rest) = if (b == quote) && (c == quote) then b ∷ undoubled quote rest else b ∷ undoubled quote (c ∷ rest)

abbrev pub unquoted_by : ℕ → List ℕ → List ℕ
unquoted_by b text = if b == byte "[" then inner text else (if is_quote b then undoubled b (inner text) else text)

-- what the text of a token means, once its quotes are undone
unfoldable pub unquoted : List ℕ → List ℕ
unquoted [] = []
unquoted (b ∷ rest) = unquoted_by b (b ∷ rest)

-- the byte that each pair of hexadecimal digits stands for
abbrev pub hex_pairs : List ℕ → List ℕ
hex_pairs [] = []
hex_pairs (a ∷ []) = []
hex_pairs (a ∷ b ∷ rest) = (digit_value a * 16 + digit_value b) ∷ hex_pairs rest

-- the bytes that the text of a blob means, which is `x`, a quote, pairs of hexadecimal digits and a quote
unfoldable pub blob_bytes : List ℕ → List ℕ
blob_bytes text = hex_pairs (inner (drop 1 text))
