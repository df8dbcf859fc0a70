use Rattle.std.proofs.Common.{◌≡◌, ◌∙◌, ap, arith, to_z, of_z, w64, to_z-of_z, subst, ℤ}
use Rattle.spe_model.specs.Tree.{rank}
use Rattle.spe_insert.specs.LeafStep.{IsAbove, IsFrom}
use Rattle.spe_insert.specs.Place.{place_for}
use Rattle.spe_insert.proofs.GapLemmas.{gap_is}
use Rattle.spe_insert.proofs.leaf_step.gap_of.Goals as goal

pub returns-clause-gap : goal.returns-clause-gap
returns-clause-gap c =
    let same : to_z w64 (of_z w64 c.args.rowid) ≡ c.args.rowid = grind (arith, to_z-of_z) in
    gap_is c.args.rowid c.args.cells.now c.split_at.result.1.now c.place_of-place.result
    (c.place_of-place.ensures.place ∙ ap (λ (k : ℤ). place_for (rank k) c.args.cells.now) same) c.split_at.ensures.back c.place_of-place.ensures.within
    (subst (λ (k : ℤ). IsFrom (rank k) c.split_at.result.1.now → IsAbove (rank k) c.split_at.result.1.now) same (c.leads.ensures.rank c.if-leads.false))
