use Rattle.std.proofs.Common.{length}
use Rattle.spe_render.specs.Outcomes.{clients_text}
use Rattle.spe_render.specs.Passes.{PassesNumbered}
use Rattle.spe_render.proofs.outcomes.put_clients.Given as goal

abbrev pub invariant-loop-left : goal.invariant-loop-left
invariant-loop-left g l =
    PassesNumbered (g.W.Sink.taken l.fn.sink) (g.W.Sink.taken l.sink) (g.W.Sink.faults l.fn.sink) (g.W.Sink.faults l.sink) l.fn.out l.out
    (clients_text 1 l.fn.clients) (clients_text l.client_number l.left) l.client_number (length l.left)

abbrev pub decreases-loop-left : goal.decreases-loop-left
decreases-loop-left g l = length l.left
