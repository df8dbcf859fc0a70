use Rattle.spe_serve.proofs.SharedLemmas.{shared_told}
use Rattle.spe_serve.proofs.shared.told_shared.Goals as goal

pub returns-clause-shared : goal.returns-clause-shared
returns-clause-shared g c =
    shared_told g.S.Pages c.args.space.now c.read_shared.new.space c.args.node c.read_shared.result c.read_shared.ensures.kept (g.met.S.Pages.given c.read_shared.new.space)
    c.read_shared.ensures.found c.read_shared.ensures.asks
