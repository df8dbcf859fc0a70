-- The text of a declared type, word by word.
use Rattle.std.proofs.Common.{◌≡◌, ℕ, List, [], ◌∷◌, ◌++◌, refl, sym, ap}
use Rattle.spe_model.specs.Token.{Lexeme}
use Rattle.spe_model.specs.Definition.{type_text}
use Rattle.spe_catalog.specs.Text.{capitals, behind_blanks}

append_none : (xs : List ℕ) → xs ++ [] ≡ xs
append_none [] = refl
append_none (x ∷ xs) = ap (λ (ys : List ℕ). x ∷ ys) (append_none xs)

pub text_of : (first : Lexeme) (others : List Lexeme) → type_text (first ∷ others) ≡ capitals first ++ behind_blanks others
text_of first [] = sym (append_none (capitals first))
text_of first (second ∷ others) = rw (text_of second others) refl
