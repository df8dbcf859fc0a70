use Rattle.std.proofs.Common.{ℕ, subst}
use Rattle.spe_model.specs.Chain.{links}
use Rattle.spe_model.specs.Walk.{chain_marks}
use Rattle.spe_check.specs.MetPages.{has_met}
use Rattle.spe_check.specs.Tries.{Tries}
use Rattle.spe_check.proofs.index_tree.try_cell.Goals as goal

pub returns-clause-tried : goal.returns-clause-tried
returns-clause-tried g c = λ usable pages shows.
    let P : ℕ → Type 0 = λ n. Tries c.args.walk.now.met.pages (has_met c.args.walk.now.met) (has_met c.try_chain.new.walk.met) (chain_marks pages (links usable n) c.args.page c.args.cell.now.chain) c.try_chain.result in
    subst P c.rest_in.ensures (c.try_chain.ensures.tried usable pages shows).0
