-- What `clap` finds in the words of a line, and what is made of it.
use Rattle.std.specs.Prelude.{◌≡◌, ◌≢◌, ◌&&◌, ◌≤◌, Bool, true, false, not, nat_lt, List, [], ◌∷◌, All, Option, Some, None, Result, Ok, Err, codes, length, option_map, unwrap_or}
use Rattle.std.specs.Borrow.{Bor}
use Rattle.std.specs.List.{list_all}
use Rattle.std.specs.Str.{bytes_eq}
use Rattle.clap.specs.Lexer.{has_byte}
use Rattle.clap.specs.Walk.{texts}
use Rattle.clap.specs.Words.{found_of, matched_of, raw_values}
use Rattle.clap.specs.declared.parser.matches.ArgMatches.{ArgMatches}
use Rattle.spe_words.specs.Line.{Line, Spells, Text, begins_with_dash, is_among, values_of}
use Rattle.spe_words.specs.Grammar.{IsFor, command_word, options_of, run_options}
use Rattle.spe_words.specs.declared.command.Command.{Command}
use Rattle.spe_words.specs.declared.command.WordsFault.{WordsFault}
use Rattle.spe_words.specs.declared.command.WordsFault.TheVariants as fault
use Rattle.spe_words.specs.declared.kind.Kind.{Kind}
use Rattle.spe_words.specs.declared.kind.Kind.TheVariants as kind

-- the name spells no value, and is not the id of the positionals
abbrev pub is_name : Text → Bool
is_name name = nat_lt 0 (length name) && (not (has_byte 61 name) && not (bytes_eq name (codes "words")))

abbrev pub are_names : List Text → Bool
are_names names = list_all is_name names

abbrev pub found_values : ArgMatches → Text → List Text
found_values m id = unwrap_or (option_map raw_values (matched_of (found_of m) id)) []

abbrev pub positionals_of : ArgMatches → List Text
positionals_of m = found_values m (codes "words")

abbrev pub Shows : List Text → ArgMatches → Line → Type 0
Shows names m line = (positionals_of m ≡ line.positionals)
    × ((name : Text) → is_among names name ≡ true → found_values m name ≡ values_of name line)

abbrev pub HasPlainValues : List Text → ArgMatches → Type 0
HasPlainValues names m =
    (name : Text) → is_among names name ≡ true → All (λ v. begins_with_dash v ≡ false) (found_values m name)

-- the matches show each line that the words spell; they spell one unless a value begins with `-`
pub record ShowsLines (names words : List Text) (m : ArgMatches) : Type 0 where
  pub each : (line : Line) → Spells names words line → Shows names m line
  pub one : HasPlainValues names m → (line : Line) × Spells names words line

abbrev pub FindsLine : List Text → List Text → Result ArgMatches WordsFault → Type 0
FindsLine names words (Ok m) = ShowsLines names words m
FindsLine names words (Err fault.Words) = (line : Line) → ¬ Spells names words line
FindsLine names words (Err fault.Memory) = Unit {0}

-- the database and the scripts of `run`
abbrev pub AreTargets : List Text → Text → List Text → Type 0
AreTargets positionals db scripts = (positionals ≡ db ∷ scripts) × (1 ≤ length scripts) × (length scripts ≤ 64)

abbrev pub FindsTargets : List Text → Option (Bor Text × Bor (List (Bor Text))) → Type 0
FindsTargets positionals (Some found) = AreTargets positionals found.0.now (texts found.1.now)
FindsTargets positionals None = (db : Text) (scripts : List Text) → ¬ AreTargets positionals db scripts

-- one, two or three positionals
abbrev pub FindsOne : List Text → Option (Bor Text) → Type 0
FindsOne positionals (Some found) = positionals ≡ found.now ∷ []
FindsOne positionals None = (a : Text) → positionals ≢ a ∷ []

abbrev pub FindsTwo : List Text → Option (Bor Text × Bor Text) → Type 0
FindsTwo positionals (Some found) = positionals ≡ found.0.now ∷ found.1.now ∷ []
FindsTwo positionals None = (a b : Text) → positionals ≢ a ∷ b ∷ []

abbrev pub FindsThree : List Text → Option (Bor Text × Bor Text × Bor Text) → Type 0
FindsThree positionals (Some found) = positionals ≡ found.0.now ∷ found.1.now ∷ found.2.now ∷ []
FindsThree positionals None = (a b c : Text) → positionals ≢ a ∷ b ∷ c ∷ []

-- the one command of which P holds, or that there is none; want of memory is free
abbrev pub FindsCommand : (Command → Type 0) → Result Command WordsFault → Type 0
FindsCommand P (Ok c) = P c × ((d : Command) → P d → d ≡ c)
FindsCommand P (Err fault.Words) = (c : Command) → ¬ P c
FindsCommand P (Err fault.Memory) = Unit {0}

-- a command with this command word, of what is found
abbrev pub IsOf : Text → ArgMatches → Command → Type 0
IsOf word m c = (command_word c ≡ word) × IsFor c (positionals_of m) (found_values m)

-- a command with this command word, of a line that the words spell
abbrev pub IsSpelledBy : Text → List Text → Command → Type 0
IsSpelledBy word words c = (command_word c ≡ word)
    × ((line : Line) × Spells (options_of c) words line × IsFor c line.positionals (λ name. values_of name line))

-- a command of these words, where none is empty
abbrev pub IsAsked : List Text → Command → Type 0
IsAsked words c = (rest : List Text) × (words ≡ command_word c ∷ rest)
    × ((line : Line) × Spells (options_of c) rest line × IsFor c line.positionals (λ name. values_of name line))

abbrev pub kind_word : Kind → Text
kind_word kind.Rows = codes "rows"
kind_word kind.Check = codes "check"
kind_word kind.Prepare = codes "prepare"
kind_word kind.Release = codes "release"
kind_word kind.Run = codes "run"
kind_word kind.Work = codes "work"

abbrev pub kind_options : Kind → List Text
kind_options kind.Run = run_options
kind_options _ = []
