use Rattle.std.proofs.Common.{◌≡◌, ◌∙◌, ◌≤◌, ◌+◌, ap, sym, subst, refl, to_z, of_z, w64, true}
use Rattle.spe_model.specs.declared.page.Kind.TheVariants.{TableInterior}
use Rattle.spe_model.specs.Page.{ascends}
use Rattle.spe_cut.specs.Parts.{need, room}
use Rattle.spe_cut.specs.Run.{Run}
use Rattle.spe_insert.specs.Run.{run_of}
use Rattle.spe_delete.proofs.JoinLemmas.{joined_form}
use Rattle.spe_mend.proofs.PairLemmas.{either_is, thin_few}
use Rattle.spe_mend.proofs.pair.thin_joined.Goals as goal

pub returns-clause-writable : goal.returns-clause-writable
returns-clause-writable c =
    let order : ascends c.in_ok-all.all.cells ≡ true = ap ascends (sym c.as_slice-3.ensures) ∙ sym c.if-not-ascends_in.ensures in
    joined_form c.room_law.ensures.separator c.args.usable (run_of c.args.first) (to_z w64 (of_z w64 c.args.key)) (run_of c.args.second) (run_of c.in_ok-all.all) c.in_ok-all.ensures
    c.requires.first c.requires.second order

pub returns-clause-few : goal.returns-clause-few
returns-clause-few c =
    let z = to_z w64 (of_z w64 c.args.key) in
    let thin = either_is c.as_slice.result.now c.as_slice-2.result.now c.args.first.cells c.args.second.cells c.as_slice.ensures c.as_slice-2.ensures (c.if-not-is_one_thin.ensures.thin refl) in
    subst (λ (r : Run). need TableInterior r.cells ≤ room TableInterior 0 c.args.usable + 30) (sym c.in_ok-all.ensures)
    (thin_few c.room_law.ensures.few c.args.usable (run_of c.args.first) z (run_of c.args.second) (c.room_law.ensures.separator c.args.usable z c.args.first.right) thin
    c.requires.first c.requires.second c.requires.first_few c.requires.second_few)
