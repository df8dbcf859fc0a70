-- What the command lines are to `clap`.
use Rattle.std.specs.Prelude.{true, List, [], ◌∷◌, Some, codes}
use Rattle.clap.specs.declared.builder.ArgAction.TheVariants.{Append}
use Rattle.clap.specs.Words.{App, Rule, new_app, new_rule, with_rule}
use Rattle.spe_words.specs.Line.{Text}

-- all positionals are one argument
abbrev pub positional_rule : Rule
positional_rule = record (new_rule (codes "words")) { action = Some Append }

abbrev pub option_rule : Text → Rule
option_rule name = record (new_rule name) { long = Some name; action = Some Append }

abbrev pub with_options : App → List Text → App
with_options app [] = app
with_options app (name ∷ names) = with_options (with_rule app (option_rule name)) names

abbrev pub without_flags : App → App
without_flags app =
    record app { top = record app.top { disable_help_flag = true; disable_version_flag = true } }

abbrev pub syntax_of : Text → List Text → App
syntax_of command names = with_options (with_rule (without_flags (new_app command)) positional_rule) names
