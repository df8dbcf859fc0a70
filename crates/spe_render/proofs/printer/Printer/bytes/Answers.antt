use Rattle.std.proofs.Common.{refl}
use Rattle.spe_render.proofs.printer.Printer.bytes.Goals as goal

pub returns-then-keep : goal.returns-then-keep
returns-then-keep g c = c.if-keep.ensures.kept refl (g.W.Sink.taken c.args.sink.now) (g.W.Sink.faults c.args.sink.now)

pub returns : goal.returns
returns g c = rw (← c.if-keep.ensures.same) c.flush_and_print.ensures
