use Rattle.std.proofs.Common.{rules as std_rules}
use Rattle.spe_words.proofs.FindLemmas.{finds, finds_none}
use Rattle.spe_words.proofs.line.read_line.Goals as goal

-- src/line.rt:50:1
pub returns-in-Ok : goal.returns-in-Ok
returns-in-Ok c = finds _ _ _ _ c.in_ok-syntax.ensures c.requires.names c.requires.utf8 c.in-Ok.matches c.in-Ok.ensures.kinds c.in-Ok.ensures.matches

pub returns : goal.returns
returns c = finds_none _ _ _ _ c.in_ok-syntax.ensures c.requires.names c.requires.utf8 c.in-Err.error c.in-Err.ensures.kinds (λ e. search (std_rules, e))
