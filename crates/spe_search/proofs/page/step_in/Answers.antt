use Rattle.std.proofs.Common.{◌≡◌, ℤ, take, arith, subst, to_z, of_z, w64, to_z-of_z}
use Rattle.spe_search.specs.Step.{Steps}
use Rattle.spe_search.proofs.StepLemmas.{step_shown}
use Rattle.spe_search.proofs.page.step_in.Goals as goal

pub returns : goal.returns
returns c =
    let same : to_z w64 (of_z w64 c.args.rowid) ≡ c.args.rowid = grind (arith, to_z-of_z) in
    let P : ℤ → Type 0 = λ z. Steps c.in-Ok.view z c.step_of.result in
    step_shown (take c.args.usable c.args.page.now) c.args.at c.in-Ok.view c.args.rowid c.step_of.result c.in-Ok.ensures.shown c.in-Ok.ensures.legal (subst P same c.step_of.ensures)
