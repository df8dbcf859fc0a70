use Rattle.std.proofs.Common.{◌∙◌, ap, subst, sym}
use Rattle.spe_model.specs.declared.page.PageCells.{PageCells}
use Rattle.spe_model.specs.Kind.{is_table}
use Rattle.spe_model.specs.Schema.{is_index_page}
use Rattle.spe_check.specs.Objects.{TriesFrom, index_tree}
use Rattle.spe_model.specs.Verdict.{schema_rows}
use Rattle.spe_check.specs.MetPages.{has_met}
use Rattle.spe_check.proofs.ObjectLemmas.{tree_closed, tree_index, tree_open, tree_rooted}
use Rattle.spe_check.proofs.objects.try_tree.Goals as goal

pub returns-then-not-is_table-clause-tried : goal.returns-then-not-is_table-clause-tried
returns-then-not-is_table-clause-tried g c = λ usable pages shows holder attaches at some is.
    let T : PageCells → Type 0 = λ n. TriesFrom g.S.Pages c.try_index.new.space c.args.walk.now.met c.try_index.new.walk.met index_tree (λ _ _. 0) c.args.root n c.try_index.result in
    tree_index c.args.walk.now.met.pages (has_met c.args.walk.now.met) (has_met c.try_index.new.walk.met) usable pages holder c.args.row.now c.args.root c.args.node.now c.try_index.result at is
    (sym (c.is_table.ensures ∙ ap is_table c.kind.ensures) ∙ c.if-not-is_table.true) (subst T c.in_ok-cells.ensures c.try_index.ensures.tried usable pages shows holder is)

pub returns-in-Some-clause-tried : goal.returns-in-Some-clause-tried
returns-in-Some-clause-tried g c = λ usable pages shows holder attaches at some is.
    let kind = sym (c.is_table.ensures ∙ ap is_table c.kind.ensures) ∙ c.if-not-is_table.false in
    let rooted = tree_rooted usable pages c.args.row.now c.args.root c.args.node.now at some is kind in
    tree_open c.args.walk.now.met.pages (has_met c.args.walk.now.met) (has_met c.try_open.new.walk.met) usable pages holder c.args.row.now c.args.root c.in-Some.columns c.args.node.now c.try_open.result at is kind
    (sym c.in-Some.is ∙ c.in_ok-columns.ensures (is_index_page pages) (schema_rows usable pages) attaches rooted) (c.try_open.ensures.tried usable pages shows holder is)

pub returns-in-None-clause-tried : goal.returns-in-None-clause-tried
returns-in-None-clause-tried g c = λ usable pages shows holder attaches at some is.
    let kind = sym (c.is_table.ensures ∙ ap is_table c.kind.ensures) ∙ c.if-not-is_table.false in
    let rooted = tree_rooted usable pages c.args.row.now c.args.root c.args.node.now at some is kind in
    tree_closed c.args.walk.now.met.pages (has_met c.args.walk.now.met) (has_met c.try_closed.new.walk.met) usable pages holder c.args.row.now c.args.root c.args.node.now c.try_closed.result is kind
    (sym c.in-None.is ∙ c.in_ok-columns.ensures (is_index_page pages) (schema_rows usable pages) attaches rooted) (c.try_closed.ensures.tried usable pages shows holder is)
