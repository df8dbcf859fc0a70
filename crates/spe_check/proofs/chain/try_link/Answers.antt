use Rattle.std.proofs.Common.{ℕ, not, ◌==◌, [], ◌∷◌}
use Rattle.spe_model.specs.Walk.{Names, Keeps}
use Rattle.spe_check.specs.MetPages.{has_met}
use Rattle.spe_check.proofs.TriesLemmas.{tries_halt, tries_then, the_err}
use Rattle.spe_check.proofs.ShownLemmas.{broken_refuses}
use Rattle.spe_check.proofs.chain.try_link.Goals as goal

pub returns-in-Err-clause-tried : goal.returns-in-Err-clause-tried
returns-in-Err-clause-tried g c = λ usable pages shows. (
  tries_halt (Unit {0}) ℕ c.args.walk.now.met.pages (has_met c.args.walk.now.met) (has_met c.args.walk.now.met) (has_met c.args.walk.now.met)
      (Keeps c.args.holder 7 (not (c.args.page == 0)) ∷ []) (Names c.args.holder c.args.page ∷ []) c.in-Err.halt (c.in-Err.ensures.tried c.args.walk.now.met.pages (has_met c.args.walk.now.met)),
  tt,
)

pub returns-in-Err-clause-refusal : goal.returns-in-Err-clause-refusal
returns-in-Err-clause-refusal g c = broken_refuses ℕ g.S.Pages c.args.space.now c.in-Err.halt c.in-Err.ensures.broken

pub returns-in-Err-meet-clause-tried : goal.returns-in-Err-meet-clause-tried
returns-in-Err-meet-clause-tried g c = λ usable pages shows. (
  tries_then {X = Unit {0}} {Y = ℕ} c.args.walk.now.met.pages (has_met c.args.walk.now.met) (has_met c.args.walk.now.met) (has_met c.meet.new.self)
      (Keeps c.args.holder 7 (not (c.args.page == 0)) ∷ []) (Names c.args.holder c.args.page ∷ []) tt (the_err ℕ c.in-Err-meet.halt)
      (c.in-Ok.ensures.tried c.args.walk.now.met.pages (has_met c.args.walk.now.met)) c.in-Err-meet.ensures.tried,
  tt,
)

pub returns-in-Err-meet-clause-refusal : goal.returns-in-Err-meet-clause-refusal
returns-in-Err-meet-clause-refusal g c = broken_refuses ℕ g.S.Pages c.args.space.now c.in-Err-meet.halt c.in-Err-meet.ensures.broken
