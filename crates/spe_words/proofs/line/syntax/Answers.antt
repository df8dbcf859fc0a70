use Rattle.spe_words.proofs.SyntaxLemmas.{options_turn}
use Rattle.spe_words.proofs.line.syntax.Goals as goal

pub loop-left-preserved : goal.loop-left-preserved
loop-left-preserved c = options_turn _ _ _ c.loop-left.left.now _ c.loop-left.invariant c.in-len1-up.len_at_least c.in_ok-syntax-2.ensures
