use Rattle.std.proofs.Common.{◌≡◌, Some, ap, arith, to_z, of_z, w64, to_z-of_z, ◌∙◌}
use Rattle.spe_format.specs.View.{cell_seen}
use Rattle.spe_search.proofs.EndLemmas.{last_shown}
use Rattle.spe_search.proofs.PlaceLemmas.{hole_there}
use Rattle.spe_search.proofs.last.leaf_end.Goals as goal

pub returns-in_default : goal.returns-in_default
returns-in_default c = hole_there c.args.view.now.cells _ c.in_default.ensures (omega (arith, c.if-count-eq0.false, c.count-count.ensures))

pub returns : goal.returns
returns c = λ cells e.
    let same : to_z w64 (of_z w64 c.in-Some.parts.key) ≡ c.in-Some.parts.key = grind (arith, to_z-of_z) in
    ap Some same ∙ last_shown c.args.view.now.cells _ (cell_seen c.in-Some.parts) c.in-Some.ensures (omega (arith, c.if-count-eq0.false, c.count-count.ensures)) cells e
