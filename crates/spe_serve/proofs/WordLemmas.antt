-- What is told of a command by the words that ask for it.
use Rattle.std.proofs.Common.{ℕ, List}
use Rattle.spe_words.specs.declared.command.Command.{Command}
use Rattle.spe_words.specs.declared.command.Command.TheVariants as commands
use Rattle.spe_words.specs.Grammar.{AskFor, IsFor}
use Rattle.spe_words.specs.Line.{Text}
use Rattle.spe_serve.specs.Answer.{HasLists}

few_lists : (c : Command) (positionals : List Text) (values : Text → List Text) → IsFor c positionals values → HasLists c
few_lists (commands.Rows db table) positionals values is = tt
few_lists (commands.Check db) positionals values is = tt
few_lists (commands.Prepare db lists) positionals values is = (is.2.at_least, is.2.at_most)
few_lists (commands.Release db) positionals values is = tt
few_lists (commands.Run db scripts workers retries slots) positionals values is = tt
few_lists (commands.Work db seed count) positionals values is = tt

pub asked_lists : (words : List (List ℕ)) (c : Command) → AskFor words c → HasLists c
asked_lists words c asks = few_lists c asks.line.positionals _ asks.asked
