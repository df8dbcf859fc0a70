use Rattle.std.proofs.Common.{sym, ◌∙◌, ap}
use Rattle.spe_lex.specs.Front.{whole}
use Rattle.spe_lex.proofs.LexLemmas.{lexemes_of-front}
use Rattle.spe_lex.proofs.reading.lexemes.Goals as goal

pub returns-in-Some : goal.returns-in-Some
returns-in-Some c =
    lexemes_of-front c.args.text.now ∙ ap whole (sym c.in-Ok.ensures ∙ ap (λ o. (c.in-Ok.front.lexemes.items, o)) c.in-Some.is)

pub returns-in-Ok : goal.returns-in-Ok
returns-in-Ok c =
    lexemes_of-front c.args.text.now ∙ ap whole (sym c.in-Ok.ensures ∙ ap (λ o. (c.in-Ok.front.lexemes.items, o)) c.in-None.is)
