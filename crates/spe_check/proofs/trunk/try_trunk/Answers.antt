use Rattle.std.proofs.Common.{◌∙◌, [], ◌∷◌, sym}
use Rattle.spe_model.specs.Walk.{Names}
use Rattle.spe_check.specs.declared.trunk.Trunk.{Trunk}
use Rattle.spe_check.specs.MetPages.{has_met}
use Rattle.spe_check.specs.Trunks.{room_marks}
use Rattle.spe_check.proofs.ShownLemmas.{broken_refuses_last}
use Rattle.spe_check.proofs.TriesLemmas.{tries_halt}
use Rattle.spe_check.proofs.TrunkLemmas.{trunk_last}
use Rattle.spe_check.proofs.trunk.try_trunk.Goals as goal

pub returns-in-Err-clause-tried : goal.returns-in-Err-clause-tried
returns-in-Err-clause-tried g c = λ usable pages shows. (
  tries_halt (Unit {0}) Trunk c.args.met.now.pages (has_met c.args.met.now) (has_met c.get_met.new.met) (has_met c.get_met.new.met)
      (Names c.args.holder c.args.trunk ∷ []) (room_marks usable c.args.trunk (pages c.args.trunk)) c.in-Err.halt (c.in-Err.ensures.tried usable pages shows).0,
  tt,
)

pub returns-clause-tried : goal.returns-clause-tried
returns-clause-tried g c = λ usable pages shows.
    let met = c.in-Ok.ensures.tried usable pages shows in
    let size = c.usable-usable.ensures.value ∙ sym c.in-Ok.ensures.walked.reads.used ∙ sym shows.used in
    trunk_last c.args.met.now c.get_met.new.met c.trunk_in.new.met usable _ pages c.args.holder c.args.trunk _ c.trunk_in.result c.in-Ok.ensures.walked.pages size met.1 met.0 c.trunk_in.ensures.tried

pub returns-clause-refusal : goal.returns-clause-refusal
returns-clause-refusal g c = broken_refuses_last g.S.Pages c.args.space.now c.get_met.new.space c.trunk_in.result c.in-Ok.ensures.refusal c.trunk_in.ensures.broken
