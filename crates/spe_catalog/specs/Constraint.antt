-- Constraints of a column, one after the other.
use Rattle.std.specs.Prelude.{◌≡◌, ◌<◌, Bool, true, false, ◌&&◌, ◌||◌, List, [], ◌∷◌, length, drop, Option, Some, None, is_some, if◌then◌else◌}
use Rattle.std.specs.Option.{option_map}
use Rattle.spe_model.specs.Token.{Lexeme}
use Rattle.spe_model.specs.Cell.{◌>>=◌}
use Rattle.spe_model.specs.Definition.{Mark, Not, Null, Primary, Key, Asc, mark_of, marks_at, Said, said_by, after}
use Rattle.spe_catalog.specs.declared.constraint.Mark.{Mark as Found}
use Rattle.spe_catalog.specs.declared.constraint.Mark.TheVariants as found
use Rattle.spe_catalog.specs.declared.constraint.Said.{Said as Heard}

abbrev pub mark_seen : Found → Mark
mark_seen found.Not = Not
mark_seen found.Null = Null
mark_seen found.Primary = Primary
mark_seen found.Key = Key
mark_seen found.Asc = Asc

abbrev pub said_seen : Heard → Said
said_seen s = record { not_null = s.not_null; is_key = s.is_key }

abbrev pub is_same : Mark → Mark → Bool
is_same Not Not = true
is_same Null Null = true
is_same Primary Primary = true
is_same Key Key = true
is_same Asc Asc = true
is_same _ _ = false

abbrev pub is_mark : Mark → Option Mark → Bool
is_mark mark None = false
is_mark mark (Some other) = is_same other mark

-- a word that constraints are made of stands at the front
abbrev pub begins_mark : List Lexeme → Bool
begins_mark [] = false
begins_mark (x ∷ xs) = is_some (mark_of x)

-- what follows this word at the front
abbrev pub after_mark : Mark → List Lexeme → Option (List Lexeme)
after_mark mark xs = after (λ x. is_mark mark (mark_of x)) xs

-- what two constraints say, of which at most one makes the column the primary key
abbrev pub joined : Said → Said → Option Said
joined a b = if a.is_key && b.is_key then None else Some (record { not_null = a.not_null || b.not_null; is_key = a.is_key || b.is_key })

-- the first constraint says this, and the others stand behind it
pub record Starts (xs : List Lexeme) (first : Said) (rest : List Lexeme) : Type 0 where
  pub says : said_by (marks_at xs) ≡ said_by (marks_at rest) >>= joined first
  pub behind : drop (length (marks_at xs)) xs ≡ drop (length (marks_at rest)) rest
  pub shorter : length rest < length xs

abbrev pub StartsSaid : List Lexeme → Option (Said × List Lexeme) → Type 0
StartsSaid xs None = said_by (marks_at xs) ≡ None
StartsSaid xs (Some (first, rest)) = Starts xs first rest

-- what the constraints at the front say, and what follows them
abbrev pub said_at : List Lexeme → Option (Said × List Lexeme)
said_at xs = option_map (λ s. (s, drop (length (marks_at xs)) xs)) (said_by (marks_at xs))
