-- Tokens up to a semicolon.
use Rattle.std.proofs.Common.{◌≡◌, ℕ, List, [], ◌∷◌, ◌++◌, Option, Bool, true, false, refl, sym, ◌∙◌, ap, append_assoc, append-nil, codes, if◌then◌else◌}
use Rattle.spe_model.specs.Definition.{is_sign}
use Rattle.spe_model.specs.Token.{Lexeme}
use Rattle.spe_lex.specs.Front.{Front, led_by}
use Rattle.spe_script.specs.declared.part.Border.{Border}
use Rattle.spe_script.specs.declared.part.Border.TheVariants.{Semicolon}
use Rattle.spe_script.specs.Script.{Stretch, ahead, last_border, stretches}

abbrev led : Border → List Stretch → List Lexeme → List Stretch
led border others xs = (xs, border) ∷ others

pub ahead_nothing : (all : List Stretch) → ahead [] all ≡ all
ahead_nothing [] = refl
ahead_nothing (s ∷ others) = refl

ahead_more : (found xs : List Lexeme) (all : List Stretch) → ahead (found ++ xs) all ≡ ahead found (ahead xs all)
ahead_more found xs [] = refl
ahead_more found xs (s ∷ others) = ap (led s.1 others) (append_assoc found xs s.0)

-- what stands behind a token, given whether it is a semicolon
abbrev behind_token : ℕ → Lexeme → Front → Bool → List Stretch
behind_token size x after semicolon = if semicolon then ([], Semicolon x.at) ∷ stretches size after else ahead (x ∷ []) (stretches size after)

by_token : (size : ℕ) (x : Lexeme) (before after : Front) (b : Bool) → before ≡ led_by x after → is_sign (codes ";") x ≡ b
    → stretches size before ≡ behind_token size x after b
by_token size x before after b e is = ap (stretches size) e ∙ ap (behind_token size x after) is

-- a token that is no semicolon
pub token_turns : (size : ℕ) (found : List Lexeme) (x : Lexeme) (before after : Front) (all : List Stretch) → before ≡ led_by x after → is_sign (codes ";") x ≡ false
    → ahead found (stretches size before) ≡ all → ahead (found ++ (x ∷ [])) (stretches size after) ≡ all
token_turns size found x before after all e is same =
    ahead_more found (x ∷ []) (stretches size after) ∙ (sym (ap (ahead found) (by_token size x before after false e is)) ∙ same)

-- a semicolon
pub semicolon_ends : (size : ℕ) (found : List Lexeme) (x : Lexeme) (before after : Front) (all : List Stretch) → before ≡ led_by x after → is_sign (codes ";") x ≡ true
    → ahead found (stretches size before) ≡ all → all ≡ led (Semicolon x.at) (stretches size after) found
semicolon_ends size found x before after all e is same =
    sym same ∙ (ap (ahead found) (by_token size x before after true e is) ∙ ap (led (Semicolon x.at) (stretches size after)) (append-nil found))

abbrev no_token : Option ℕ → Front
no_token fault = ([], fault)

-- the end, or a fault
pub tokens_end : (size : ℕ) (found : List Lexeme) (fault : Option ℕ) (before : Front) (all : List Stretch) → before ≡ no_token fault
    → ahead found (stretches size before) ≡ all → all ≡ led (last_border size fault) [] found
tokens_end size found fault before all e same =
    sym same ∙ (ap (λ (front : Front). ahead found (stretches size front)) e ∙ ap (led (last_border size fault) []) (append-nil found))
