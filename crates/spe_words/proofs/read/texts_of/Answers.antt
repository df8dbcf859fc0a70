use Rattle.std.proofs.Common.{◌∙◌, ap, length}
use Rattle.spe_words.proofs.CommandLemmas.{texts_end, texts_turn}
use Rattle.spe_words.proofs.read.texts_of.Goals as goal

pub loop-left-preserved : goal.loop-left-preserved
loop-left-preserved c =
    texts_turn _ _ c.loop-left.left.now _ c.as_str-text.result _ c.loop-left.invariant c.in-len1-up.len_at_least (c.as_str-text.ensures ∙ c.word-item.is) c.as_str-text.utf8
    (λ empty. c.if-length-eq0.false (ap length empty)) c.in_ok-push.ensures.items

pub returns-clause-utf8 : goal.returns-clause-utf8
returns-clause-utf8 c = texts_end _ c.loop-left.left.now _ c.loop-left.invariant.0 c.in_default.len_below c.loop-left.invariant.1
