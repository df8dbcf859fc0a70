use Rattle.std.proofs.Common.{◌∙◌, sym}
use Rattle.spe_check.proofs.FreeLemmas.{free_server, free_stock}
use Rattle.spe_check.proofs.free_lists.try_free.Goals as goal

pub returns-in-Some-clause-tried : goal.returns-in-Some-clause-tried
returns-in-Some-clause-tried g c = λ usable pages shows is.
    free_server usable pages c.args.met.now c.try_node.new.met c.args.header.now c.in-Some.node c.try_node.result (sym c.node.ensures ∙ c.in-Some.is) is (c.try_node.ensures.tried usable pages shows)

pub returns-in-None-clause-tried : goal.returns-in-None-clause-tried
returns-in-None-clause-tried g c = λ usable pages shows is.
    free_stock usable pages c.args.met.now c.try_stock.new.met c.args.header.now c.try_stock.result (sym c.node.ensures ∙ c.in-None.is) is (c.try_stock.ensures.tried usable pages shows)
