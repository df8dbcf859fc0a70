use Rattle.std.proofs.Common.{◌∙◌, ◌+◌, ◌++◌, drop, arith, refl, sym}
use Rattle.spe_model.specs.Tree.{rank}
use Rattle.spe_model.specs.Walk.{leaf_marks, leaf_rows}
use Rattle.spe_check.specs.TableTree.{low_of, high_of}
use Rattle.spe_format.specs.View.{cell_seen}
use Rattle.spe_check.proofs.TableLemmas.{none_left, row_next, row_halt, rows_end, rows_rest}
use Rattle.spe_check.proofs.ShownLemmas.{shows_before, walked_both}
use Rattle.spe_check.proofs.table_tree.try_rows.Goals as goal

pub returns-in-Err-clause-tried : goal.returns-in-Err-clause-tried
returns-in-Err-clause-tried g c = λ usable pages shows later floor.
    let v = g.V.RowVisitor in
    let now = shows_before g.S.Pages c.rows.space c.try_row.new.space usable pages c.in-Err.ensures.walked.reads shows in
    let front = c.in-Some.ensures.front in
    let outlook = v.outlook c.args.visitor.now (leaf_rows usable pages c.args.page c.args.node.now.cells ++ later) in
    let tried = c.in-Err.ensures.tried usable pages shows (leaf_rows usable pages c.args.page (drop (c.rows.index + 1) c.args.node.now.cells) ++ later) (c.rows.invariant.floor floor) in (
      row_halt v usable pages c.args.walk.now.met c.rows.walk.met c.try_row.new.walk.met c.rows.visitor outlook later
          (leaf_marks outlook.marks usable pages c.args.page (low_of c.args.bounds.low) (high_of c.args.bounds.high) c.args.node.now.cells) c.args.page (low_of c.rows.low) (high_of c.args.bounds.high)
          (drop c.rows.index c.args.node.now.cells) (drop (c.rows.index + 1) c.args.node.now.cells) (cell_seen c.in-Some.parts) c.in-Err.halt c.rows.invariant.walked.pages front (c.rows.invariant.rowed usable pages now later floor) tried.0,
      tt,
    )

pub rows-preserved : goal.rows-preserved
rows-preserved g c = record {
  walked = walked_both g.S.Pages c.args.space.now c.rows.space c.try_row.new.space c.args.walk.now.met c.rows.walk.met c.try_row.new.walk.met c.rows.invariant.walked c.in-Ok.ensures.walked;
  refusal = c.in-Ok.ensures.refusal ∙ c.rows.invariant.refusal;
  floor = λ floor.
      let risen = c.in-Ok.ensures.rises (c.rows.invariant.floor floor) (omega (arith, c.in-Ok.ensures.above)) in
      omega (arith, risen, c.key_of-low.ensures.low);
  under = λ under. omega (arith, c.in-Ok.ensures.below, c.key_of-low.ensures.low);
  wanted = c.in-Ok.ensures.wanted ∙ c.rows.invariant.wanted;
  rowed = λ usable pages shows later floor.
      let v = g.V.RowVisitor in
      let now = shows_before g.S.Pages c.rows.space c.try_row.new.space usable pages c.in-Ok.ensures.walked.reads shows in
      let front = c.in-Some.ensures.front in
      let outlook = v.outlook c.args.visitor.now (leaf_rows usable pages c.args.page c.args.node.now.cells ++ later) in
      let all = leaf_marks outlook.marks usable pages c.args.page (low_of c.args.bounds.low) (high_of c.args.bounds.high) c.args.node.now.cells in
      let tried = c.in-Ok.ensures.tried usable pages shows (leaf_rows usable pages c.args.page (drop (c.rows.index + 1) c.args.node.now.cells) ++ later) (c.rows.invariant.floor floor) in
      rows_rest v usable pages c.args.walk.now.met c.try_row.new.walk.met c.try_row.new.visitor outlook later all c.args.page (rank (cell_seen c.in-Some.parts).key + 1) (low_of c.key_of-low.result) (high_of c.args.bounds.high)
      (drop (c.rows.index + 1) c.args.node.now.cells) _ (sym c.key_of-low.ensures.low) refl
      (row_next v usable pages c.args.walk.now.met c.rows.walk.met c.try_row.new.walk.met c.rows.visitor c.try_row.new.visitor outlook later all c.args.page (low_of c.rows.low) (high_of c.args.bounds.high)
      (drop c.rows.index c.args.node.now.cells) (drop (c.rows.index + 1) c.args.node.now.cells) (cell_seen c.in-Some.parts) c.rows.invariant.walked.pages front (c.rows.invariant.rowed usable pages now later floor) tried.0 tried.1);
}

pub returns-clause-tried : goal.returns-clause-tried
returns-clause-tried g c = λ usable pages shows later floor.
    let v = g.V.RowVisitor in
    let outlook = v.outlook c.args.visitor.now (leaf_rows usable pages c.args.page c.args.node.now.cells ++ later) in
    rows_end v usable pages c.args.walk.now.met c.rows.walk.met c.rows.visitor outlook later
    (leaf_marks outlook.marks usable pages c.args.page (low_of c.args.bounds.low) (high_of c.args.bounds.high) c.args.node.now.cells) c.args.page (low_of c.rows.low) (high_of c.args.bounds.high) c.args.levels
    (drop c.rows.index c.args.node.now.cells) (none_left (drop c.rows.index c.args.node.now.cells) c.in_default.ensures.front) (c.rows.invariant.rowed usable pages shows later floor)
