use Rattle.std.proofs.Common.{◌∙◌, sym}
use Rattle.spe_catalog.proofs.TextLemmas.{text_of}
use Rattle.spe_catalog.proofs.affinity.type_text.Goals as goal

pub returns : goal.returns
returns c = c.in_ok-push_words.ensures ∙ rw (c.in_ok-push_capitals.ensures, c.new-text.ensures.items) (sym (text_of c.args.first.now c.args.others.now))
