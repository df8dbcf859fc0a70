use Rattle.std.proofs.Common.{◌+◌, ◌-◌, ◌≤◌, length}
use Rattle.spe_model.specs.Standing.{shown}
use Rattle.spe_render.specs.Values.{barred}
use Rattle.spe_render.specs.Passes.{PassesFront}
use Rattle.spe_render.proofs.StoredLemmas.{left_text}
use Rattle.spe_render.proofs.stored.put_fields.Given as goal

abbrev pub invariant-loop-place : goal.invariant-loop-place
invariant-loop-place g l = record {
  few : length l.left + l.place ≤ l.count;
  front : PassesFront (g.W.Sink.taken l.fn.sink) (g.W.Sink.taken l.sink) (g.W.Sink.faults l.fn.sink) (g.W.Sink.faults l.sink) l.fn.out l.out
      (barred (shown l.table l.rowid l.fn.fields)) (left_text l.table.alias l.place l.rowid l.left l.count);
}

abbrev pub decreases-loop-place : goal.decreases-loop-place
decreases-loop-place g l = l.count - l.place
