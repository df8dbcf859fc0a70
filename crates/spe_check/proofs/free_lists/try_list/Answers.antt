use Rattle.std.proofs.Common.{◌≡◌, ◌==◌, false, arith}
use Rattle.spe_check.proofs.FreeLemmas.{some_list}
use Rattle.spe_check.proofs.free_lists.try_list.Goals as goal

pub returns-clause-tried : goal.returns-clause-tried
returns-clause-tried g c = λ usable pages shows.
    let some : (c.args.first == 0) ≡ false = grind (arith, c.if-first-eq0.false) in
    some_list usable pages c.args.met.now c.try_trunks.new.met c.args.node c.args.first c.try_trunks.result some (c.try_trunks.ensures.tried usable pages shows)
