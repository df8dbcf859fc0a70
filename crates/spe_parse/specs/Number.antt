-- Whole numbers and literals.
use Rattle.std.specs.Prelude.{ℕ, ◌^◌, ℤ, pos, neg_ℤ, Bool, true, false, nat_le, nat_lt, List, [], ◌∷◌, Option, Some, None, Ok, Err, codes, if◌then◌else◌}
use Rattle.std.specs.Str.Parse.{digits_value}
use Rattle.spe_model.specs.declared.token.SqlKind.TheVariants.{NumberRange}
use Rattle.spe_model.specs.declared.value.Value.{Value}
use Rattle.spe_model.specs.declared.value.Value.TheVariants as values
use Rattle.spe_model.specs.Definition.{is_word, is_sign, is_number}
use Rattle.spe_model.specs.Token.{Lexeme, unquoted, blob_bytes}
use Rattle.spe_parse.specs.declared.halt.Halt.TheVariants.{Fault}
use Rattle.spe_parse.specs.Part.{Part, ◌>>=◌, refused}
use Rattle.spe_parse.specs.Word.{is_string, is_blob}

-- the number, where it is one of 64 bits
abbrev pub fitting : ℕ → Option ℕ
fitting n = if nat_lt n (2 ^ 64) then Some n else None

-- the number, or its negative, where it is one of 64 bits with a sign
abbrev pub signed_fitting : Bool → ℕ → Option ℤ
signed_fitting true n = if nat_le n (2 ^ 63) then Some (neg_ℤ (pos n)) else None
signed_fitting false n = if nat_lt n (2 ^ 63) then Some (pos n) else None

-- a number that begins at this place, its sign included, where it fits
abbrev pub ranged : ℕ → Option ℤ → List Lexeme → Part ℤ
ranged at (Some number) xs = Ok (number, xs)
ranged at None xs = Err (Fault (record { at = at; kind = NumberRange }))

-- digits that have this sign, which begins at this place
unfoldable pub number_at : ℕ → Bool → List Lexeme → Part ℤ
number_at at negative [] = refused []
number_at at negative (x ∷ xs) = if is_number x then ranged at (signed_fitting negative (digits_value 10 x.text)) xs else refused (x ∷ xs)

-- digits, which may have a sign
unfoldable pub integer_at : List Lexeme → Part ℤ
integer_at [] = refused []
integer_at (x ∷ xs) =
    if is_sign (codes "-") x then number_at x.at true xs
    else (if is_sign (codes "+") x then number_at x.at false xs else number_at x.at false (x ∷ xs))

-- NULL, a string, a blob or a whole number
unfoldable pub literal_at : List Lexeme → Part Value
literal_at [] = refused []
literal_at (x ∷ xs) =
    if is_word (codes "NULL") x then Ok (values.Null, xs)
    else (if is_string x.kind then Ok (values.Text (unquoted x.text), xs)
    else (if is_blob x.kind then Ok (values.Blob (blob_bytes x.text), xs)
    else (integer_at (x ∷ xs) >>= λ number. Ok (values.Int number.0, number.1))))
