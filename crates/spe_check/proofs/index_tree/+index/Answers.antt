use Rattle.std.proofs.Common.{◌∙◌, List, drop, arith, subst, sym, refl}
use Rattle.std.proofs.lemmas.Grind.{common_steps}
use Rattle.spe_model.specs.declared.page.Cell.{Cell}
use Rattle.spe_model.specs.Walk.{chains_marks, index_marks, levels_at_leaf}
use Rattle.spe_check.specs.IndexTree.{IsFanned}
use Rattle.spe_check.specs.MetPages.{has_met}
use Rattle.spe_check.specs.Pages.{behind_read}
use Rattle.spe_check.specs.Tries.{Tries}
use Rattle.spe_check.proofs.IndexLemmas.{some_level, child_stands, fanned_first, fanned_next, fanned_rest, fanned_chain, fanned_halt, fanned_last, front_is, index_read, index_halt, leaf_last, stands_at}
use Rattle.spe_check.proofs.PageLemmas.{first_at_leaf, from_read, unread, walked_none}
use Rattle.spe_check.proofs.ShownLemmas.{shows_before, walked_both}
use Rattle.spe_check.proofs.index_tree.+index.Goals as goal

pub walk_index-returns-in-Err-clause-tried : goal.walk_index-returns-in-Err-clause-tried
walk_index-returns-in-Err-clause-tried g t c = λ usable pages shows stand is. (
  unread c.args.walk.now.met.pages (has_met c.args.walk.now.met) (has_met c.copy_met.new.met) usable pages c.args.holder c.args.page (index_marks usable pages stand c.args.depth.levels c.args.holder c.args.page) c.in-Err.halt
      (index_read usable pages stand c.args.depth.levels c.args.holder c.args.page) (c.in-Err.ensures.tried usable pages shows).0,
  tt,
)

pub walk_index-returns-clause-tried : goal.walk_index-returns-clause-tried
walk_index-returns-clause-tried g t c = λ usable pages shows stand is.
    let now = shows_before g.S.Pages c.copy_met.new.space c.walk_index_from.new.space usable pages c.walk_index_from.ensures.walked.reads shows in
    let read = c.in-Ok.ensures.tried usable pages now in
    let rest = c.walk_index_from.ensures.tried usable pages shows stand c.args.holder read.1 is in (
      from_read c.args.walk.now.met.pages c.copy_met.new.met.pages (has_met c.args.walk.now.met) (has_met c.copy_met.new.met) (has_met c.walk_index_from.new.walk.met) usable pages c.args.holder c.args.page
          (index_marks usable pages stand c.args.depth.levels c.args.holder c.args.page) c.in-Ok.node c.walk_index_from.result c.in-Ok.ensures.walked.pages
          (index_read usable pages stand c.args.depth.levels c.args.holder c.args.page) read.0 rest.0,
      rest.1,
    )

pub walk_index_from-returns-in-Err-clause-tried : goal.walk_index_from-returns-in-Err-clause-tried
walk_index_from-returns-in-Err-clause-tried g t c = λ usable pages shows stand holder at is. (
  index_halt c.args.walk.now.met.pages (has_met c.args.walk.now.met) usable pages stand c.args.depth.levels holder c.args.page c.args.node.now c.in-Err.halt at
      (c.in-Err.ensures.tried c.args.walk.now.met.pages (has_met c.args.walk.now.met) stand (levels_at_leaf usable pages c.args.depth.levels c.args.page) is
      (first_at_leaf usable pages c.args.depth.levels c.args.page c.args.node.now at)),
  tt,
)

pub walk_index_from-returns-then-is_leaf-clause-tried : goal.walk_index_from-returns-then-is_leaf-clause-tried
walk_index_from-returns-then-is_leaf-clause-tried g t c = λ usable pages shows stand holder at is.
    let first = first_at_leaf usable pages c.args.depth.levels c.args.page c.args.node.now at in
    let kind = sym c.is_leaf.ensures ∙ c.if-is_leaf.true in
    let level = stands_at c.args.depth.leaf stand (levels_at_leaf usable pages c.args.depth.levels c.args.page) c.args.depth.levels (first kind c.in-Ok.ensures.some) is in
    let P : List Cell → Type 0 = λ cs. Tries c.args.walk.now.met.pages (has_met c.args.walk.now.met) (has_met c.walk_leaf.new.walk.met) (chains_marks usable pages c.args.page cs) c.walk_leaf.result in
    leaf_last c.args.walk.now.met c.walk_leaf.new.walk.met usable pages stand c.args.depth.levels holder c.args.page c.level_of-level.result c.args.node.now c.walk_leaf.result
    c.in-Ok.ensures.some at kind (level ∙ sym c.level_of-level.ensures)
    (c.in-Ok.ensures.tried c.args.walk.now.met.pages (has_met c.args.walk.now.met) stand (levels_at_leaf usable pages c.args.depth.levels c.args.page) is first)
    (subst P c.as_slice.ensures (c.walk_leaf.ensures.tried usable pages shows)) c.walk_leaf.ensures.level

pub walk_index_from-children-init : goal.walk_index_from-children-init
walk_index_from-children-init g t c = record {
  some = c.in-Ok.ensures.some;
  walked = walked_none g.S.Pages c.args.space.now c.args.walk.now.met;
  refusal = refl;
  fanned = λ usable pages shows stand holder at is.
      let first = first_at_leaf usable pages c.args.depth.levels c.args.page c.args.node.now at in
      let P : List Cell → Type 0 = λ cs.
      IsFanned usable pages c.args.walk.now.met c.args.walk.now.met (behind_read (index_marks usable pages stand c.args.depth.levels holder c.args.page)) stand c.args.depth.levels c.args.page c.args.depth.leaf cs c.args.node.now.right in
      subst P (sym c.as_slice-left.ensures) (fanned_first usable pages c.args.walk.now.met stand c.args.depth.levels holder c.args.page c.args.depth.leaf c.args.node.now c.in-Ok.ensures.some at
      (sym c.is_leaf.ensures ∙ c.if-is_leaf.false) is
      (c.in-Ok.ensures.tried c.args.walk.now.met.pages (has_met c.args.walk.now.met) stand (levels_at_leaf usable pages c.args.depth.levels c.args.page) is first));
}

pub walk_index_from-returns-in-Err-walk_index-clause-tried : goal.walk_index_from-returns-in-Err-walk_index-clause-tried
walk_index_from-returns-in-Err-walk_index-clause-tried g t c = λ usable pages shows stand holder at is.
    let now = shows_before g.S.Pages c.children.space c.walk_index.new.space usable pages c.in-Err-walk_index.ensures.walked.reads shows in
    let front = front_is c.children.left.now c.cell-item.result c.in-len1-up.len_at_least c.cell-item.is in
    let fanned = c.children.invariant.fanned usable pages now stand holder at is in
    let all = behind_read (index_marks usable pages stand c.args.depth.levels holder c.args.page) in
    let child = c.in-Err-walk_index.ensures.tried usable pages shows stand
    (child_stands usable pages c.args.walk.now.met c.children.walk.met all stand c.args.depth.levels c.args.page c.children.leaf c.children.left.now (drop 1 c.children.left.now) c.cell-item.result _ front fanned) in (
      fanned_halt usable pages c.args.walk.now.met c.children.walk.met c.walk_index.new.walk.met all stand c.args.depth.levels c.args.page c.children.leaf
          c.children.left.now (drop 1 c.children.left.now) c.cell-item.result _ c.in-Err-walk_index.halt c.children.invariant.walked.pages front fanned child.0,
      tt,
    )

pub walk_index_from-returns-in-Err-try_cell-clause-tried : goal.walk_index_from-returns-in-Err-try_cell-clause-tried
walk_index_from-returns-in-Err-try_cell-clause-tried g t c = λ usable pages shows stand holder at is.
    let mid = shows_before g.S.Pages c.walk_index.new.space c.try_cell.new.space usable pages c.in-Err-try_cell.ensures.walked.reads shows in
    let now = shows_before g.S.Pages c.children.space c.walk_index.new.space usable pages c.in-Ok-walk_index.ensures.walked.reads mid in
    let front = front_is c.children.left.now c.cell-item.result c.in-len1-up.len_at_least c.cell-item.is in
    let fanned = c.children.invariant.fanned usable pages now stand holder at is in
    let all = behind_read (index_marks usable pages stand c.args.depth.levels holder c.args.page) in
    let child = c.in-Ok-walk_index.ensures.tried usable pages mid stand
    (child_stands usable pages c.args.walk.now.met c.children.walk.met all stand c.args.depth.levels c.args.page c.children.leaf c.children.left.now (drop 1 c.children.left.now) c.cell-item.result _ front fanned) in (
      fanned_chain usable pages c.args.walk.now.met c.children.walk.met c.walk_index.new.walk.met c.try_cell.new.walk.met all stand c.args.depth.levels c.args.page c.in-Ok-walk_index.level c.children.leaf
          c.children.left.now (drop 1 c.children.left.now) c.cell-item.result _ c.in-Err-try_cell.halt c.children.invariant.walked.pages (c.in-Ok-walk_index.ensures.walked.pages ∙ c.children.invariant.walked.pages)
          front fanned child.0 (c.in-Err-try_cell.ensures.tried usable pages shows),
      tt,
    )

pub walk_index_from-children-preserved : goal.walk_index_from-children-preserved
walk_index_from-children-preserved g t c = record {
  some = c.children.invariant.some;
  walked = walked_both g.S.Pages c.args.space.now c.walk_index.new.space c.try_cell.new.space c.args.walk.now.met c.walk_index.new.walk.met c.try_cell.new.walk.met
      (walked_both g.S.Pages c.args.space.now c.children.space c.walk_index.new.space c.args.walk.now.met c.children.walk.met c.walk_index.new.walk.met c.children.invariant.walked c.in-Ok-walk_index.ensures.walked)
      c.in-Ok-try_cell.ensures.walked;
  refusal = c.in-Ok-try_cell.ensures.refusal ∙ c.in-Ok-walk_index.ensures.refusal ∙ c.children.invariant.refusal;
  fanned = λ usable pages shows stand holder at is.
      let mid = shows_before g.S.Pages c.walk_index.new.space c.try_cell.new.space usable pages c.in-Ok-try_cell.ensures.walked.reads shows in
      let now = shows_before g.S.Pages c.children.space c.walk_index.new.space usable pages c.in-Ok-walk_index.ensures.walked.reads mid in
      let front = front_is c.children.left.now c.cell-item.result c.in-len1-up.len_at_least c.cell-item.is in
      let fanned = c.children.invariant.fanned usable pages now stand holder at is in
      let all = behind_read (index_marks usable pages stand c.args.depth.levels holder c.args.page) in
      let child = c.in-Ok-walk_index.ensures.tried usable pages mid stand
      (child_stands usable pages c.args.walk.now.met c.children.walk.met all stand c.args.depth.levels c.args.page c.children.leaf c.children.left.now (drop 1 c.children.left.now) c.cell-item.result _ front fanned) in
      fanned_rest usable pages c.args.walk.now.met c.try_cell.new.walk.met all stand c.args.depth.levels c.args.page (some_level c.in-Ok-walk_index.level) (drop 1 c.children.left.now) _ _ (grind (arith, common_steps))
      (fanned_next usable pages c.args.walk.now.met c.children.walk.met c.walk_index.new.walk.met c.try_cell.new.walk.met all stand c.args.depth.levels c.args.page c.in-Ok-walk_index.level c.children.leaf
      c.children.left.now (drop 1 c.children.left.now) c.cell-item.result _ c.children.invariant.walked.pages (c.in-Ok-walk_index.ensures.walked.pages ∙ c.children.invariant.walked.pages)
      front child.1 fanned child.0 (c.in-Ok-try_cell.ensures.tried usable pages shows));
}

pub walk_index_from-returns-clause-tried : goal.walk_index_from-returns-clause-tried
walk_index_from-returns-clause-tried g t c = λ usable pages shows stand holder at is.
    let now = shows_before g.S.Pages c.children.space c.walk_index-2.new.space usable pages c.walk_index-2.ensures.walked.reads shows in
    fanned_last usable pages c.args.walk.now.met c.children.walk.met c.walk_index-2.new.walk.met (behind_read (index_marks usable pages stand c.args.depth.levels holder c.args.page)) stand c.args.depth.levels c.args.page c.children.leaf
    c.children.left.now _ c.walk_index-2.result c.children.invariant.walked.pages c.in_default.len_below (c.children.invariant.fanned usable pages now stand holder at is) (c.walk_index-2.ensures.tried usable pages shows)
