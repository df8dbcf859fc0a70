use Rattle.std.proofs.Common.{◌≡◌, ◌∙◌, ap, arith, to_z, of_z, w64, to_z-of_z, subst, ℤ}
use Rattle.spe_model.specs.Tree.{rank}
use Rattle.spe_insert.specs.LeafStep.{IsAbove, IsFrom, IsGap}
use Rattle.spe_insert.specs.Place.{place_for}
use Rattle.spe_insert.proofs.GapLemmas.{gap_is}
use Rattle.spe_insert.proofs.replace_leaf.spot_of.Goals as goal

pub returns-clause-absent : goal.returns-clause-absent
returns-clause-absent c = λ none.
    let rowid = c.args.rowid in
    let cells = c.args.cells.now in
    let same : to_z w64 (of_z w64 rowid) ≡ rowid = grind (arith, to_z-of_z) in
    let place_is : c.place_of-place.result ≡ place_for (rank rowid) cells = c.place_of-place.ensures.place ∙ ap (λ (k : ℤ). place_for (rank k) cells) same in
    subst (IsGap (rank rowid) cells) place_is
    (gap_is rowid cells c.split_at.result.1.now c.place_of-place.result place_is c.split_at.ensures.back c.place_of-place.ensures.within
    (subst (λ (k : ℤ). IsFrom (rank k) c.split_at.result.1.now → IsAbove (rank k) c.split_at.result.1.now) same (c.leads.ensures.rank c.if-leads.false)))
