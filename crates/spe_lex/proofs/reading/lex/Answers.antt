use Rattle.spe_lex.proofs.LexLemmas.{spans_of}
use Rattle.spe_lex.proofs.reading.lex.Goals as goal

pub returns-in_ok-tokens-in-Ok-clause-spans : goal.returns-in_ok-tokens-in-Ok-clause-spans
returns-in_ok-tokens-in-Ok-clause-spans c =
    rw (c.new.ensures, c.in_ok-tokens-in-Ok.ensures, c.as_slice.ensures.value) (spans_of c.args.text.now c.in-Ok.found.items c.in-Ok.ensures)
