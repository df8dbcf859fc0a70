use Rattle.std.proofs.Common.{length}
use Rattle.spe_render.specs.Values.{rows_text}
use Rattle.spe_render.specs.Passes.{PassesFront}
use Rattle.spe_render.proofs.values.put_rows.Given as goal

abbrev pub invariant-loop-left : goal.invariant-loop-left
invariant-loop-left g l =
    PassesFront (g.W.Sink.taken l.fn.sink) (g.W.Sink.taken l.sink) (g.W.Sink.faults l.fn.sink) (g.W.Sink.faults l.sink) l.fn.out l.out
    (rows_text l.fn.rows) (rows_text l.left)

abbrev pub decreases-loop-left : goal.decreases-loop-left
decreases-loop-left g l = length l.left
