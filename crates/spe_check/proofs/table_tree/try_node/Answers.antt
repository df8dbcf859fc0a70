use Rattle.std.proofs.Common.{true, subst}
use Rattle.spe_model.specs.declared.page.Kind.{Kind}
use Rattle.spe_check.specs.Pages.{TriesPlace}
use Rattle.spe_check.proofs.table_tree.try_node.Goals as goal

pub returns-clause-tried : goal.returns-clause-tried
returns-clause-tried c =
    let P : Kind → Type 0 = λ kind. TriesPlace true c.args.leaf c.args.levels c.args.page kind c.try_place.result in
    subst P c.kind.ensures c.try_place.ensures.tried
