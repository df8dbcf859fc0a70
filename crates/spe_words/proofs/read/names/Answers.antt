use Rattle.std.proofs.Common.{◌∙◌}
use Rattle.spe_words.proofs.CommandLemmas.{names_end, names_turn}
use Rattle.spe_words.proofs.read.names.Goals as goal

pub loop-left-preserved : goal.loop-left-preserved
loop-left-preserved c = names_turn _ _ _ c.loop-left.left.now _ _ c.loop-left.invariant c.in-len1-up.len_at_least c.in_ok-name.ensures c.in_ok-push.ensures.items

pub returns : goal.returns
returns c = c.new.ensures ∙ names_end _ _ c.loop-left.left.now c.loop-left.invariant c.in_default.len_below
