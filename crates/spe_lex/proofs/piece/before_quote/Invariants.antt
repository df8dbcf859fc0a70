use Rattle.std.proofs.Common.{◌≡◌, ◌+◌, length}
use Rattle.spe_model.specs.Token.{before_quote, further}
use Rattle.spe_lex.proofs.piece.before_quote.Given as goal

abbrev pub invariant-loop-left : goal.invariant-loop-left
invariant-loop-left l = record {
  counted : further l.count (before_quote l.quote l.left) ≡ before_quote l.quote l.fn.bytes;
  rest : l.count + length l.left ≡ length l.fn.bytes;
}

abbrev pub decreases-loop-left : goal.decreases-loop-left
decreases-loop-left l = length l.left
