use Rattle.std.proofs.Common.{◌∙◌, ℕ, [], ◌∷◌, subst}
use Rattle.spe_model.specs.Walk.{Names}
use Rattle.spe_check.specs.MetPages.{has_met}
use Rattle.spe_check.specs.Tries.{Tries}
use Rattle.spe_check.proofs.TriesLemmas.{the_ok, the_err}
use Rattle.spe_check.proofs.TrunkLemmas.{leaves_more, leaves_halt}
use Rattle.spe_check.proofs.trunk.try_leaves.Goals as goal

pub returns-in-Err-clause-tried : goal.returns-in-Err-clause-tried
returns-in-Err-clause-tried c =
    let P : ℕ → Type 0 = λ n. Tries c.loop-index.met.pages (has_met c.loop-index.met) (has_met c.meet.new.self) (Names c.args.trunk n ∷ []) (the_err (Unit {0}) c.in-Err.halt) in
    leaves_halt c.args.count c.args.met.now.pages c.loop-index.met.pages (has_met c.args.met.now) (has_met c.loop-index.met) (has_met c.meet.new.self) c.args.trunk c.args.bytes.now
    c.loop-index.index c.in-Err.halt c.loop-index-test.true c.loop-index.invariant.pages c.loop-index.invariant.led (subst P c.u32_of.ensures c.in-Err.ensures.tried)

pub loop-index-preserved : goal.loop-index-preserved
loop-index-preserved c =
    let P : ℕ → Type 0 = λ n. Tries c.loop-index.met.pages (has_met c.loop-index.met) (has_met c.meet.new.self) (Names c.args.trunk n ∷ []) (the_ok (Unit {0}) tt) in
    record {
      pages = c.in-Ok.ensures.pages ∙ c.loop-index.invariant.pages;
      led = leaves_more c.args.count c.args.met.now.pages c.loop-index.met.pages (has_met c.args.met.now) (has_met c.loop-index.met) (has_met c.meet.new.self) c.args.trunk c.args.bytes.now
          c.loop-index.index c.loop-index-test.true c.loop-index.invariant.pages c.loop-index.invariant.led (subst P c.u32_of.ensures c.in-Ok.ensures.tried);
    }
