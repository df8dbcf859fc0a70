use Rattle.std.proofs.Common.{◌∙◌, ◌+◌, ◌-◌, ◌++◌, List, ℕ, ap}
use Rattle.spe_model.specs.Journal.{numbers_from}
use Rattle.spe_convert.proofs.MadeLemmas.{numbers_turn}
use Rattle.spe_convert.proofs.server.supply.Goals as goal

pub loop-page-preserved : goal.loop-page-preserved
loop-page-preserved c =
    let last = c.args.pages + 1 + c.args.added in
    ap (λ (ns : List ℕ). ns ++ numbers_from (c.loop-page.page + 1) (last - (c.loop-page.page + 1))) c.in_ok-push.ensures.items
    ∙ numbers_turn c.loop-page.all.items _ c.loop-page.page last c.loop-page-test.true c.loop-page.invariant
