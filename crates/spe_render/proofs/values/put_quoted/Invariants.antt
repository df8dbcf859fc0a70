use Rattle.std.proofs.Common.{length}
use Rattle.spe_render.specs.Values.{quoted}
use Rattle.spe_render.specs.Passes.{PassesFront}
use Rattle.spe_render.proofs.values.put_quoted.Given as goal

abbrev pub invariant-loop-place : goal.invariant-loop-place
invariant-loop-place g l =
    PassesFront (g.W.Sink.taken l.fn.sink) (g.W.Sink.taken l.sink) (g.W.Sink.faults l.fn.sink) (g.W.Sink.faults l.sink) l.fn.out l.out
    (quoted l.fn.text) (quoted l.left)

abbrev pub decreases-loop-place : goal.decreases-loop-place
decreases-loop-place g l = length l.left
