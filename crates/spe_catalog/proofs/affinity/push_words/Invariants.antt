use Rattle.std.proofs.Common.{◌≡◌, ◌++◌, length}
use Rattle.spe_catalog.specs.Text.{behind_blanks}
use Rattle.spe_catalog.proofs.affinity.push_words.Given as goal

abbrev pub invariant-loop-left : goal.invariant-loop-left
invariant-loop-left l = l.text.items ++ behind_blanks l.left ≡ l.fn.text.items ++ behind_blanks l.fn.words

abbrev pub decreases-loop-left : goal.decreases-loop-left
decreases-loop-left l = length l.left
