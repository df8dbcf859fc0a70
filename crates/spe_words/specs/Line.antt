-- The words of a command line after its command word: positionals and options.
use Rattle.std.specs.Prelude.{◌≡◌, ◌⊎◌, ◌==◌, ℕ, Bool, true, false, List, [], ◌∷◌, ◌++◌, Option, Some, None, All, codes, filter, map, unwrap_or}
use Rattle.std.specs.List.{filter_map, flat_map, list_any}
use Rattle.std.specs.Str.{bytes_eq}

abbrev pub Text : Type 0
Text = List ℕ

abbrev pub begins_with_dash : Text → Bool
begins_with_dash [] = false
begins_with_dash (byte ∷ rest) = byte == 45

abbrev pub is_among : List Text → Text → Bool
is_among names name = list_any (λ n. bytes_eq n name) names

-- what stands before a word `--`: a positional, or an option with its value, in one word or two
pub data Part : Type 0 where
  positional : Text → Part
  joined : Text → Text → Part
  apart : Text → Text → Part

abbrev pub words_of : Part → List Text
words_of (positional word) = word ∷ []
words_of (joined name value) = (codes "--" ++ name ++ codes "=" ++ value) ∷ []
words_of (apart name value) = (codes "--" ++ name) ∷ value ∷ []

-- of what begins with `-`, only `-` alone is a positional, and nothing is a value
abbrev pub IsPart : List Text → Part → Type 0
IsPart names (positional word) = (begins_with_dash word ≡ false) ⊎ (word ≡ codes "-")
IsPart names (joined name value) = (is_among names name ≡ true) × (begins_with_dash value ≡ false)
IsPart names (apart name value) = (is_among names name ≡ true) × (begins_with_dash value ≡ false)

abbrev pub positional_in : Part → Option Text
positional_in (positional word) = Some word
positional_in _ = None

abbrev pub option_in : Part → Option (Text × Text)
option_in (positional word) = None
option_in (joined name value) = Some (name, value)
option_in (apart name value) = Some (name, value)

-- the words from a word `--` on
abbrev pub last_words : Option (List Text) → List Text
last_words None = []
last_words (Some words) = codes "--" ∷ words

-- the positionals, and the options by name and value, in order
pub record Line : Type 0 where
  pub positionals : List Text
  pub options : List (Text × Text)

abbrev pub line_of : List Part → Option (List Text) → Line
line_of parts last = record {
  positionals = filter_map positional_in parts ++ unwrap_or last [];
  options = filter_map option_in parts;
}

-- the words spell the line, whose options have these names
pub record Spells (names words : List Text) (line : Line) : Type 0 where
  pub parts : List Part
  pub last : Option (List Text)
  pub are_parts : All (IsPart names) parts
  pub spelled : words ≡ flat_map words_of parts ++ last_words last
  pub read : line ≡ line_of parts last

-- the values of all options of a name
abbrev pub values_of : Text → Line → List Text
values_of name line = map (λ o. o.1) (filter (λ o. bytes_eq o.0 name) line.options)
