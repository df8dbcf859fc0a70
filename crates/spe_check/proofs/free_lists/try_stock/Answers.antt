use Rattle.std.proofs.Common.{ℕ, [], ◌∷◌, refl}
use Rattle.spe_model.specs.Walk.{Keeps}
use Rattle.spe_check.specs.MetPages.{has_met}
use Rattle.spe_check.proofs.FreeLemmas.{stock_counted, stock_halt}
use Rattle.spe_check.proofs.TriesLemmas.{halts_same, the_ok, the_err}
use Rattle.spe_check.proofs.free_lists.try_stock.Goals as goal

pub returns-in-Err-clause-tried : goal.returns-in-Err-clause-tried
returns-in-Err-clause-tried g c = λ usable pages shows. (
  stock_halt usable pages c.args.met.now c.try_trunks.new.met c.args.first c.args.number c.in-Err.halt (c.in-Err.ensures.tried usable pages shows).0,
  tt,
)

pub returns-in-Ok-try_rule-clause-tried : goal.returns-in-Ok-try_rule-clause-tried
returns-in-Ok-try_rule-clause-tried g c = λ usable pages shows.
    stock_counted usable pages c.args.met.now c.try_trunks.new.met c.args.first c.args.number c.in-Ok.free _ (the_ok ℕ c.in-Ok.free)
    c.are_as_many.ensures refl (c.in-Ok.ensures.tried usable pages shows)
    (c.in-Ok-try_rule.ensures.tried c.args.met.now.pages (has_met c.try_trunks.new.met))

pub returns-in-Err-try_rule-clause-tried : goal.returns-in-Err-try_rule-clause-tried
returns-in-Err-try_rule-clause-tried g c = λ usable pages shows.
    stock_counted usable pages c.args.met.now c.try_trunks.new.met c.args.first c.args.number c.in-Ok.free _ (the_err ℕ c.in-Err-try_rule.halt)
    c.are_as_many.ensures tt (c.in-Ok.ensures.tried usable pages shows)
    (halts_same (Unit {0}) ℕ c.args.met.now.pages (has_met c.try_trunks.new.met) (has_met c.try_trunks.new.met) (Keeps 1 10 c.are_as_many.result ∷ []) c.in-Err-try_rule.halt
    (c.in-Err-try_rule.ensures.tried c.args.met.now.pages (has_met c.try_trunks.new.met)))
