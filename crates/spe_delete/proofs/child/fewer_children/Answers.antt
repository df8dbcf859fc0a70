use Rattle.std.proofs.Common.{◌≡◌, ◌∙◌, ap, sym, to_z, of_z, w64, true}
use Rattle.spe_model.specs.Page.{ascends}
use Rattle.spe_insert.specs.Run.{run_of}
use Rattle.spe_delete.proofs.ChildLemmas.{fewer_fits, fewer_form}
use Rattle.spe_delete.proofs.child.fewer_children.Goals as goal

pub returns-clause-writable : goal.returns-clause-writable
returns-clause-writable c =
    let order : ascends c.without_child-left.result.cells ≡ true = ap ascends (sym c.as_slice-2.ensures) ∙ sym c.if-not-ascends_in.ensures in
    fewer_form c.args.usable (to_z w64 (of_z w64 c.args.rowid)) (run_of c.in-Ok.children) (run_of c.without_child-left.result) c.without_child-left.ensures c.in-Ok.ensures.writable order

pub returns-clause-fit : goal.returns-clause-fit
returns-clause-fit c =
    fewer_fits c.args.usable (to_z w64 (of_z w64 c.args.rowid)) (run_of c.in-Ok.children) (run_of c.without_child-left.result) c.requires.low c.without_child-left.ensures c.in-Ok.ensures.few
