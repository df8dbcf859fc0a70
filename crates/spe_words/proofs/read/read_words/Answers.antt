use Rattle.std.proofs.Common.{◌∙◌, All, ap, subst, sym}
use Rattle.std.specs.List.{Contains}
use Rattle.std.proofs.Common.{[]}
use Rattle.std.specs.Str.{IsUtf8}
use Rattle.clap.specs.Walk.{texts}
use Rattle.spe_words.specs.Grammar.{AskFor}
use Rattle.spe_words.proofs.CommandLemmas.{no_command, one_command, words_answer}
use Rattle.spe_words.proofs.read.read_words.Goals as goal

pub command_of-requires : goal.command_of-requires
command_of-requires c = subst (All IsUtf8) (sym (ap texts c.as_slice-2.ensures.value ∙ c.in_ok-texts.ensures.texts)) c.in_ok-texts.ensures.utf8

pub returns-clause-no_other : goal.returns-clause-no_other
returns-clause-no_other c =
    one_command (AskFor c.args.words.now) c.command_of.result
    (words_answer _ _ _ (ap texts c.as_slice-2.ensures.value ∙ c.in_ok-texts.ensures.texts ∙ c.as_slice.ensures)
    (subst (λ ws. ¬ Contains ws []) c.as_slice.ensures c.in_ok-texts.ensures.no_empty) c.command_of.ensures)

pub returns-clause-none : goal.returns-clause-none
returns-clause-none c =
    no_command (AskFor c.args.words.now) c.command_of.result
    (words_answer _ _ _ (ap texts c.as_slice-2.ensures.value ∙ c.in_ok-texts.ensures.texts ∙ c.as_slice.ensures)
    (subst (λ ws. ¬ Contains ws []) c.as_slice.ensures c.in_ok-texts.ensures.no_empty) c.command_of.ensures)
