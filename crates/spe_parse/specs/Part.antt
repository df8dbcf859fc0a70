-- Parts of a statement. A part is what stands at the front of some tokens, with the tokens after it; or the reading stops
-- at the first token that no rule admits.
use Rattle.std.specs.Prelude.{ℕ, zero, suc, Bool, false, List, [], ◌∷◌, ◌++◌, length, drop, Result, Ok, Err, codes, if◌then◌else◌}
use Rattle.spe_model.specs.declared.token.SqlKind.{SqlKind}
use Rattle.spe_model.specs.declared.token.SqlKind.TheVariants.{Expected, Unsupported}
use Rattle.spe_model.specs.Definition.{is_sign}
use Rattle.spe_model.specs.Token.{Lexeme, unquoted}
use Rattle.spe_parse.specs.declared.halt.Halt.{Halt}
use Rattle.spe_parse.specs.declared.halt.Halt.TheVariants.{Ends, Fault}
use Rattle.spe_parse.specs.Word.{is_left_out, is_name}

abbrev pub Part : Type 0 → Type 0
Part X = Result (X × List Lexeme) Halt

infixl 10 ◌>>=◌
abbrev pub ◌>>=◌ : {A B : Type 0} → Result A Halt → (A → Result B Halt) → Result B Halt
(Ok x) >>= f = f x
(Err halt) >>= f = Err halt

-- why a token is refused where no rule admits it
abbrev pub kind_of : Lexeme → SqlKind
kind_of x = if is_left_out x then Unsupported else Expected

-- where the reading stops if no rule admits what stands at the front
abbrev pub halt_at : List Lexeme → Halt
halt_at [] = Ends
halt_at (x ∷ xs) = Fault (record { at = x.at; kind = kind_of x })

abbrev pub refused : {A : Type 0} → List Lexeme → Result A Halt
refused xs = Err (halt_at xs)

-- such a token stands at the front
abbrev pub stands : (Lexeme → Bool) → List Lexeme → Bool
stands test [] = false
stands test (x ∷ xs) = test x

-- what follows such a token
abbrev pub after : (Lexeme → Bool) → List Lexeme → Result (List Lexeme) Halt
after test [] = refused []
after test (x ∷ xs) = if test x then Ok xs else refused (x ∷ xs)

-- a name
abbrev pub name_at : List Lexeme → Part (List ℕ)
name_at [] = refused []
name_at (x ∷ xs) = if is_name x then Ok (unquoted x.text, xs) else refused (x ∷ xs)

-- what is read, behind what was read before
abbrev pub ahead : {A : Type 0} → List A → Part (List A) → Part (List A)
ahead found (Ok (xs, rest)) = Ok (found ++ xs, rest)
ahead found (Err halt) = Err halt

-- parts with such a token between each two, as many as stand there, but at most so many
abbrev pub parts_within : {A : Type 0} → ℕ → (Lexeme → Bool) → (List Lexeme → Part (List A)) → List Lexeme → Part (List A)
parts_within zero between part xs = refused xs
parts_within (suc n) between part xs = do
  first ← part xs
  if stands between first.1 then ahead first.0 (parts_within n between part (drop 1 first.1)) else Ok first

-- parts with such a token between each two; there are no more of them than tokens
unfoldable pub parts_at : {A : Type 0} → (Lexeme → Bool) → (List Lexeme → Part (List A)) → List Lexeme → Part (List A)
parts_at between part xs = parts_within (length xs) between part xs

-- a part as a list of one
abbrev pub single : {A : Type 0} → (List Lexeme → Part A) → List Lexeme → Part (List A)
single part xs = part xs >>= λ x. Ok (x.0 ∷ [], x.1)

-- parts with commas between them
abbrev pub listed : {A : Type 0} → (List Lexeme → Part A) → List Lexeme → Part (List A)
listed part xs = parts_at (is_sign (codes ",")) (single part) xs

-- and in parentheses
abbrev pub enclosed : {A : Type 0} → (List Lexeme → Part A) → List Lexeme → Part (List A)
enclosed part xs = do
  inside ← after (is_sign (codes "(")) xs
  parts ← listed part inside
  rest ← after (is_sign (codes ")")) parts.1
  Ok (parts.0, rest)
