use Rattle.std.proofs.Common.{ℕ, None, subst}
use Rattle.spe_check.specs.TableTree.{TriesTableFrom}
use Rattle.spe_check.proofs.objects.try_table.Goals as goal

pub returns-clause-tried : goal.returns-clause-tried
returns-clause-tried g c =
    let P : ℕ → Type 0 = λ n. TriesTableFrom g.S.Pages g.V.RowVisitor c.walk_table_from.new.space c.args.walk.now.met c.walk_table_from.new.walk.met c.args.visitor.now c.walk_table_from.new.visitor
    None n 0 18446744073709551616 c.args.root c.args.node.now c.walk_table_from.result in
    subst P c.tree_levels-levels.ensures c.walk_table_from.ensures.tried
