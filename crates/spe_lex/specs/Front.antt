-- The tokens of a text before its first fault. (This project's own.)
use Rattle.std.specs.Prelude.{ℕ, zero, suc, ◌+◌, ◌-◌, List, [], ◌∷◌, take, Option, Some, None, Result, Ok, Err}
use Rattle.spe_model.specs.declared.token.SqlFault.{SqlFault}
use Rattle.spe_model.specs.declared.token.SqlKind.TheVariants as faults
use Rattle.spe_model.specs.Token.{Lexeme, Piece, piece_of}

-- tokens, and the first byte at which no token, blank or comment stands, where there is one
abbrev pub Front : Type 0
Front = List Lexeme × Option ℕ

abbrev pub led_by : Lexeme → Front → Front
led_by x front = (x ∷ front.0, front.1)

-- what a piece at this place gives, with what stands behind it
abbrev pub front_behind : (at : ℕ) → List ℕ → Option Piece → (ℕ → Front) → Front
front_behind at text None others = ([], Some at)
front_behind at text (Some (None, n)) others = others (n - 1)
front_behind at text (Some (Some kind, n)) others = led_by (record { kind = kind; at = at; text = take n text }) (others (n - 1))

-- of the text that begins at this place, the first bytes of which are the rest of a piece
abbrev pub front_from : (at passed : ℕ) → List ℕ → Front
front_from at passed [] = ([], None)
front_from at zero (b ∷ rest) = front_behind at (b ∷ rest) (piece_of b rest) (λ n. front_from (at + 1) n rest)
front_from at (suc passed) (b ∷ rest) = front_from (at + 1) passed rest

-- the tokens of a text up to its first fault, and the place of that fault
abbrev pub front_of : List ℕ → Front
front_of text = front_from 0 0 text

-- the tokens, where there is no fault
abbrev pub whole : Front → Result (List Lexeme) SqlFault
whole (xs, None) = Ok xs
whole (xs, Some at) = Err (record { at = at; kind = faults.Token })
