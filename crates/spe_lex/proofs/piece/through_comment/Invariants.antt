use Rattle.std.proofs.Common.{◌≡◌, ◌+◌, length}
use Rattle.spe_model.specs.Token.{through_comment}
use Rattle.spe_lex.proofs.piece.through_comment.Given as goal

abbrev pub invariant-loop-left : goal.invariant-loop-left
invariant-loop-left l = record {
  counted : l.count + through_comment l.left ≡ through_comment l.fn.bytes;
  rest : l.count + length l.left ≡ length l.fn.bytes;
}

abbrev pub decreases-loop-left : goal.decreases-loop-left
decreases-loop-left l = length l.left
