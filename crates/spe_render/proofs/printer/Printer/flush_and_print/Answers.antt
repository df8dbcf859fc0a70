use Rattle.std.proofs.Common.{refl}
use Rattle.spe_render.proofs.PassesLemmas.{then}
use Rattle.spe_render.proofs.printer.Printer.flush_and_print.Goals as goal

pub returns-then-keep : goal.returns-then-keep
returns-then-keep g c = then c.flush.ensures.gives (c.if-keep.ensures.kept refl _ _)

pub returns : goal.returns
returns g c = then c.flush.ensures.gives (rw (← c.if-keep.ensures.same) c.put.ensures)
