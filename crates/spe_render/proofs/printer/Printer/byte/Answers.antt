use Rattle.std.proofs.Common.{refl}
use Rattle.spe_render.proofs.printer.Printer.byte.Goals as goal

pub returns-then-keep_byte : goal.returns-then-keep_byte
returns-then-keep_byte g c = c.if-keep_byte.ensures.kept refl (g.W.Sink.taken c.args.sink.now) (g.W.Sink.faults c.args.sink.now)

pub returns : goal.returns
returns g c = rw (← c.if-keep_byte.ensures.same) c.flush_and_print.ensures
