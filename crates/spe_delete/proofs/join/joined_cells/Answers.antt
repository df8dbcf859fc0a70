use Rattle.std.proofs.Common.{◌≡◌, ◌∙◌, ap, sym, to_z, of_z, w64, true}
use Rattle.spe_model.specs.Page.{ascends}
use Rattle.spe_insert.specs.Run.{run_of}
use Rattle.spe_delete.proofs.JoinLemmas.{joined_form}
use Rattle.spe_delete.proofs.join.joined_cells.Goals as goal

pub returns-clause-writable : goal.returns-clause-writable
returns-clause-writable c =
    let order : ascends c.in_ok-all.all.cells ≡ true = ap ascends (sym c.as_slice.ensures) ∙ sym c.if-not-ascends_in.ensures in
    joined_form c.room_law.ensures.separator c.args.usable (run_of c.args.first) (to_z w64 (of_z w64 c.args.key)) (run_of c.args.second) (run_of c.in_ok-all.all) c.in_ok-all.ensures
    c.requires.first c.requires.second order
