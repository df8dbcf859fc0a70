use Rattle.std.proofs.Common.{◌≡◌, ◌++◌, length}
use Rattle.spe_model.specs.Token.{undoubled}
use Rattle.spe_lex.proofs.quotes.undoubled.Given as goal

abbrev pub invariant-loop-left : goal.invariant-loop-left
invariant-loop-left l = l.found.items ++ undoubled l.quote l.left ≡ undoubled l.quote l.fn.bytes

abbrev pub decreases-loop-left : goal.decreases-loop-left
decreases-loop-left l = length l.left
