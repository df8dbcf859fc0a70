-- The piece at the front of a text.
use Rattle.std.specs.Prelude.{ℕ, List, [], ◌∷◌, Option, None}
use Rattle.spe_model.specs.Token.{Piece, piece_of}

abbrev pub piece_at : List ℕ → Option Piece
piece_at [] = None
piece_at (b ∷ rest) = piece_of b rest
