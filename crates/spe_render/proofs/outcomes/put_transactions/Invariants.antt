use Rattle.std.proofs.Common.{length}
use Rattle.spe_render.specs.Outcomes.{transactions_text}
use Rattle.spe_render.specs.Passes.{PassesNumbered}
use Rattle.spe_render.proofs.outcomes.put_transactions.Given as goal

abbrev pub invariant-loop-left : goal.invariant-loop-left
invariant-loop-left g l =
    PassesNumbered (g.W.Sink.taken l.fn.sink) (g.W.Sink.taken l.sink) (g.W.Sink.faults l.fn.sink) (g.W.Sink.faults l.sink) l.fn.out l.out
    (transactions_text 1 l.fn.transactions) (transactions_text l.number l.left) l.number (length l.left)

abbrev pub decreases-loop-left : goal.decreases-loop-left
decreases-loop-left g l = length l.left
