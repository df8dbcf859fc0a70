-- The commands that words ask for. (This project's own.)
use Rattle.std.specs.Prelude.{◌≡◌, ◌⊎◌, ◌≤◌, ℕ, List, [], ◌∷◌, Contains, IsTrue, codes, length}
use Rattle.std.specs.Int.{is_power_of_two}
use Rattle.std.specs.Str.Parse.{IsNumeral, digits_value}
use Rattle.spe_words.specs.Line.{Line, Spells, Text, values_of}
use Rattle.spe_words.specs.declared.command.Command.{Command}
use Rattle.spe_words.specs.declared.command.Command.TheVariants.{Rows, Check, Prepare, Release, Run, Work}

-- the text is this number in decimal, and from `least` to `most`
pub record IsNumber (least most : ℕ) (text : Text) (n : ℕ) : Type 0 where
  pub digits : IsNumeral 10 text
  pub short : length text ≤ 10
  pub value : n ≡ digits_value 10 text
  pub at_least : least ≤ n
  pub at_most : n ≤ most

-- the number that the values of an option give: one value, or none for the default
abbrev pub IsSetting : ℕ → ℕ → ℕ → List Text → ℕ → Type 0
IsSetting default least most values n =
    ((values ≡ []) × (n ≡ default)) ⊎ ((text : Text) × (values ≡ text ∷ []) × IsNumber least most text n)

-- the settings of `run`, by the values of each option
pub record AreSettings (values : Text → List Text) (threads tries words : ℕ) : Type 0 where
  pub workers : IsSetting 4 1 16 (values (codes "workers")) threads
  pub retries : IsSetting 1000 0 1000000 (values (codes "retries")) tries
  pub slots : IsSetting 262144 16 262144 (values (codes "slots")) words
  pub power : IsTrue (is_power_of_two words)

abbrev pub run_options : List Text
run_options = codes "workers" ∷ codes "retries" ∷ codes "slots" ∷ []

abbrev pub command_word : Command → Text
command_word (Rows db table) = codes "rows"
command_word (Check db) = codes "check"
command_word (Prepare db lists) = codes "prepare"
command_word (Release db) = codes "release"
command_word (Run db scripts workers retries slots) = codes "run"
command_word (Work db seed count) = codes "work"

abbrev pub options_of : Command → List Text
options_of (Run db scripts workers retries slots) = run_options
options_of _ = []

-- the positionals, and the values of each option, are the command's
abbrev pub IsFor : Command → List Text → (Text → List Text) → Type 0
IsFor (Rows db table) positionals values = positionals ≡ db ∷ table ∷ []
IsFor (Check db) positionals values = positionals ≡ db ∷ []
IsFor (Prepare db lists) positionals values = (text : Text) × (positionals ≡ db ∷ text ∷ []) × IsNumber 1 16 text lists
IsFor (Release db) positionals values = positionals ≡ db ∷ []
IsFor (Run db scripts workers retries slots) positionals values = (positionals ≡ db ∷ scripts)
    × (1 ≤ length scripts) × (length scripts ≤ 64) × AreSettings values workers retries slots
IsFor (Work db seed count) positionals values =
    (first : Text) × ((second : Text) × (positionals ≡ db ∷ first ∷ second ∷ [])
    × IsNumber 0 4294967295 first seed × IsNumber 1 100000 second count)

-- the words ask for the command: its command word, and a line with what it wants; none is empty
pub record AskFor (words : List Text) (c : Command) : Type 0 where
  pub rest : List Text
  pub are : words ≡ command_word c ∷ rest
  pub no_empty : ¬ Contains words []
  pub line : Line
  pub spells : Spells (options_of c) rest line
  pub asked : IsFor c line.positionals (λ name. values_of name line)
