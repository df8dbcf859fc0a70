use Rattle.std.proofs.Common.{◌∙◌, ap}
use Rattle.spe_core.specs.Locks.{without_lock}
use Rattle.spe_core.proofs.LocksLemmas.{removed_is}
use Rattle.spe_core.proofs.locks.Locks.remove.Goals as goal

pub returns : goal.returns
returns c = c.remove-was.ensures.keys ∙ removed_is c.args.lock c.self.inside.set.keys c.self.invariant ∙ ap (without_lock c.args.lock) c.self.view_is
