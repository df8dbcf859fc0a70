use Rattle.std.proofs.Common.{rules}
use Rattle.spe_render.proofs.PassesLemmas.{ended_ok, ended_err}
use Rattle.spe_render.proofs.printer.Printer.finish.Goals as goal

pub returns-then-self : goal.returns-then-self
returns-then-self g c = ended_err (search rules) c.flush.ensures.gives

pub returns-else-self : goal.returns-else-self
returns-else-self g c = ended_ok c.self.inside.waiting.items c.flush.ensures.none (search rules) c.flush.ensures.gives
