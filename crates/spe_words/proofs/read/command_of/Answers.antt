use Rattle.std.proofs.Common.{◌∙◌, ap, sym}
use Rattle.spe_words.specs.Found.{kind_word}
use Rattle.spe_words.proofs.CommandLemmas.{asked_by, unknown_word}
use Rattle.spe_words.proofs.read.command_of.Goals as goal

pub returns-in-Some-Run : goal.returns-in-Some-Run
returns-in-Some-Run c =
    let word = sym (ap kind_word c.in-Some-Run.field-0-is) ∙ c.in-Some-Run.ensures.found in
    asked_by c.args.words.now _ _ _ c.in-len1-up.len_at_least word c.read_kind.ensures

pub returns-in-Some : goal.returns-in-Some
returns-in-Some c = asked_by c.args.words.now _ _ _ c.in-len1-up.len_at_least c.in-Some.ensures.found c.read_kind-in-Some.ensures

pub returns-in-None : goal.returns-in-None
returns-in-None c = unknown_word c.args.words.now _ c.in-len1-up.len_at_least c.in-None.ensures.none
