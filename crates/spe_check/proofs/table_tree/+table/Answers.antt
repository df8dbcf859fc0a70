use Rattle.std.proofs.Common.{◌≡◌, ℕ, ◌+◌, ◌∙◌, ◌-◌, ◌++◌, drop, arith, refl, subst, sym}
use Rattle.spe_format.specs.View.{cell_seen}
use Rattle.spe_model.specs.Walk.{fan_rows, levels_at_leaf, table_marks, walk_rows}
use Rattle.spe_check.specs.IndexTree.{level_of}
use Rattle.spe_check.specs.MetPages.{has_met}
use Rattle.spe_check.specs.Pages.{behind_read}
use Rattle.spe_check.specs.TableTree.{TriesTable, low_of, high_of}
use Rattle.spe_check.proofs.IndexLemmas.{some_level, stands_at}
use Rattle.spe_check.proofs.PageLemmas.{first_at_leaf, from_read, unread, walked_none}
use Rattle.spe_check.proofs.ShownLemmas.{shows_before, walked_both}
use Rattle.spe_check.proofs.TableLemmas.{none_left, rows_last, table_read, table_halt}
use Rattle.spe_check.proofs.TableFanLemmas.{child_halt, key_halt, table_child_stands, table_fanned_first, table_fanned_last, table_fanned_next, table_fanned_rest}
use Rattle.spe_check.proofs.table_tree.+table.Goals as goal

pub walk_table-returns-in-Err-clause-tried : goal.walk_table-returns-in-Err-clause-tried
walk_table-returns-in-Err-clause-tried g t c = λ usable pages shows stand later is floor.
    let own = (g.V.RowVisitor.outlook c.args.visitor.now (walk_rows usable pages c.args.depth.levels c.args.page ++ later)).marks in (
      unread c.args.walk.now.met.pages (has_met c.args.walk.now.met) (has_met c.read_met.new.met) usable pages c.args.holder c.args.page
          (table_marks own usable pages stand c.args.depth.levels (low_of c.args.bounds.low) (high_of c.args.bounds.high) c.args.holder c.args.page) c.in-Err.halt
          (table_read own usable pages stand c.args.depth.levels (low_of c.args.bounds.low) (high_of c.args.bounds.high) c.args.holder c.args.page) (c.in-Err.ensures.tried usable pages shows).0,
      tt,
      tt,
    )

pub walk_table-returns-clause-tried : goal.walk_table-returns-clause-tried
walk_table-returns-clause-tried g t c = λ usable pages shows stand later is floor.
    let own = (g.V.RowVisitor.outlook c.args.visitor.now (walk_rows usable pages c.args.depth.levels c.args.page ++ later)).marks in
    let now = shows_before g.S.Pages c.read_met.new.space c.walk_table_from-found.new.space usable pages c.walk_table_from-found.ensures.walked.reads shows in
    let read = c.in-Ok.ensures.tried usable pages now in
    let rest = c.walk_table_from-found.ensures.tried usable pages shows stand c.args.holder later read.1 is floor in (
      from_read c.args.walk.now.met.pages c.read_met.new.met.pages (has_met c.args.walk.now.met) (has_met c.read_met.new.met) (has_met c.walk_table_from-found.new.walk.met) usable pages c.args.holder c.args.page
          (table_marks own usable pages stand c.args.depth.levels (low_of c.args.bounds.low) (high_of c.args.bounds.high) c.args.holder c.args.page) c.in-Ok.node c.walk_table_from-found.result c.in-Ok.ensures.walked.pages
          (table_read own usable pages stand c.args.depth.levels (low_of c.args.bounds.low) (high_of c.args.bounds.high) c.args.holder c.args.page) read.0 rest.0,
      rest.1,
      rest.2,
    )

pub walk_table_from-returns-in-Err-clause-tried : goal.walk_table_from-returns-in-Err-clause-tried
walk_table_from-returns-in-Err-clause-tried g t c = λ usable pages shows stand holder later at is floor.
    let own = (g.V.RowVisitor.outlook c.args.visitor.now (walk_rows usable pages c.args.depth.levels c.args.page ++ later)).marks in (
      table_halt c.args.walk.now.met.pages (has_met c.args.walk.now.met) own usable pages stand c.args.depth.levels (low_of c.args.bounds.low) (high_of c.args.bounds.high) holder c.args.page c.args.node.now c.in-Err.halt at
          (c.in-Err.ensures.tried c.args.walk.now.met.pages (has_met c.args.walk.now.met) stand (levels_at_leaf usable pages c.args.depth.levels c.args.page) is
          (first_at_leaf usable pages c.args.depth.levels c.args.page c.args.node.now at)),
      tt,
      tt,
    )

pub walk_table_from-returns-then-has_rows-clause-tried : goal.walk_table_from-returns-then-has_rows-clause-tried
walk_table_from-returns-then-has_rows-clause-tried g t c = λ usable pages shows stand holder later at is floor.
    let v = g.V.RowVisitor in
    let first = first_at_leaf usable pages c.args.depth.levels c.args.page c.args.node.now at in
    let kind = sym c.has_rows.ensures ∙ c.if-has_rows.true in
    let level : stand ≡ level_of c.args.depth.leaf c.args.depth.levels = stands_at c.args.depth.leaf stand (levels_at_leaf usable pages c.args.depth.levels c.args.page) c.args.depth.levels (first kind c.in-Ok.ensures.some) is in
    let there : stand ≡ c.level_of-level.result = level ∙ sym {b = level_of c.args.depth.leaf c.args.depth.levels} c.level_of-level.ensures in
    rows_last v usable pages c.args.walk.now.met c.try_rows.new.walk.met c.args.visitor.now c.try_rows.new.visitor later stand c.args.depth.levels (low_of c.args.bounds.low) (high_of c.args.bounds.high) holder c.args.page
    c.level_of-level.result c.args.node.now c.try_rows.result c.in-Ok.ensures.some at kind there
    (c.in-Ok.ensures.tried c.args.walk.now.met.pages (has_met c.args.walk.now.met) stand (levels_at_leaf usable pages c.args.depth.levels c.args.page) is first)
    (c.try_rows.ensures.tried usable pages shows later floor) c.try_rows.ensures.level

pub walk_table_from-children-init : goal.walk_table_from-children-init
walk_table_from-children-init g t c = record {
  some = c.in-Ok.ensures.some;
  walked = walked_none g.S.Pages c.args.space.now c.args.walk.now.met;
  refusal = refl;
  floor = λ floor. floor;
  under = λ under. under;
  wanted = refl;
  fanned = λ usable pages shows stand holder later at is floor.
      let v = g.V.RowVisitor in
      let first = first_at_leaf usable pages c.args.depth.levels c.args.page c.args.node.now at in
      table_fanned_first v usable pages c.args.walk.now.met c.args.visitor.now later stand c.args.depth.levels (low_of c.args.bounds.low) (high_of c.args.bounds.high) holder c.args.page c.args.depth.leaf c.args.node.now c.in-Ok.ensures.some at
      (sym c.has_rows.ensures ∙ c.if-has_rows.false) is
      (c.in-Ok.ensures.tried c.args.walk.now.met.pages (has_met c.args.walk.now.met) stand (levels_at_leaf usable pages c.args.depth.levels c.args.page) is first);
}

pub walk_table_from-returns-in-Err-walk_table-clause-tried : goal.walk_table_from-returns-in-Err-walk_table-clause-tried
walk_table_from-returns-in-Err-walk_table-clause-tried g t c = λ usable pages shows stand holder later at is floor.
    let v = g.V.RowVisitor in
    let now = shows_before g.S.Pages c.children.space c.walk_table.new.space usable pages c.in-Err-walk_table.ensures.walked.reads shows in
    let rest = drop (c.children.index + 1) c.args.node.now.cells in
    let front = c.in-Some.ensures.front in
    let fanned = c.children.invariant.fanned usable pages now stand holder later at is floor in
    let outlook = v.outlook c.args.visitor.now (walk_rows usable pages c.args.depth.levels c.args.page ++ later) in
    let all = behind_read (table_marks outlook.marks usable pages stand c.args.depth.levels (low_of c.args.bounds.low) (high_of c.args.bounds.high) holder c.args.page) in
    let stands = table_child_stands v usable pages c.args.walk.now.met c.children.walk.met c.children.visitor outlook later all stand c.args.depth.levels (low_of c.children.low) (high_of c.args.bounds.high) c.args.page c.children.leaf
    (drop c.children.index c.args.node.now.cells) rest (cell_seen c.in-Some.parts) c.args.node.now.right front fanned in
    let child = c.in-Err-walk_table.ensures.tried usable pages shows stand (fan_rows (walk_rows usable pages (c.args.depth.levels - 1)) rest c.args.node.now.right ++ later) stands (c.children.invariant.floor floor) in (
      child_halt v usable pages c.args.walk.now.met c.children.walk.met c.walk_table.new.walk.met c.children.visitor outlook later all stand c.args.depth.levels (low_of c.children.low) (high_of c.args.bounds.high) c.args.page
          (high_of c.key_of-key.result) c.children.leaf (drop c.children.index c.args.node.now.cells) rest (cell_seen c.in-Some.parts) c.args.node.now.right c.in-Err-walk_table.halt c.children.invariant.walked.pages front c.key_of-key.ensures.high fanned child.0,
      tt,
      tt,
    )

pub walk_table_from-returns-in-Err-try_bound-clause-tried : goal.walk_table_from-returns-in-Err-try_bound-clause-tried
walk_table_from-returns-in-Err-try_bound-clause-tried g t c = λ usable pages shows stand holder later at is floor.
    let v = g.V.RowVisitor in
    let now = shows_before g.S.Pages c.children.space c.walk_table.new.space usable pages c.in-Ok-walk_table.ensures.walked.reads shows in
    let rest = drop (c.children.index + 1) c.args.node.now.cells in
    let front = c.in-Some.ensures.front in
    let fanned = c.children.invariant.fanned usable pages now stand holder later at is floor in
    let outlook = v.outlook c.args.visitor.now (walk_rows usable pages c.args.depth.levels c.args.page ++ later) in
    let all = behind_read (table_marks outlook.marks usable pages stand c.args.depth.levels (low_of c.args.bounds.low) (high_of c.args.bounds.high) holder c.args.page) in
    let stands = table_child_stands v usable pages c.args.walk.now.met c.children.walk.met c.children.visitor outlook later all stand c.args.depth.levels (low_of c.children.low) (high_of c.args.bounds.high) c.args.page c.children.leaf
    (drop c.children.index c.args.node.now.cells) rest (cell_seen c.in-Some.parts) c.args.node.now.right front fanned in
    let child = c.in-Ok-walk_table.ensures.tried usable pages shows stand (fan_rows (walk_rows usable pages (c.args.depth.levels - 1)) rest c.args.node.now.right ++ later) stands (c.children.invariant.floor floor) in (
      key_halt v usable pages c.args.walk.now.met c.children.walk.met c.walk_table.new.walk.met c.children.visitor outlook later all stand c.args.depth.levels (low_of c.children.low) (high_of c.args.bounds.high) c.args.page
          (high_of c.key_of-key.result) c.in-Ok-walk_table.level c.children.leaf (drop c.children.index c.args.node.now.cells) rest (cell_seen c.in-Some.parts) c.args.node.now.right c.in-Err-try_bound.halt c.children.invariant.walked.pages front
          c.key_of-key.ensures.high fanned child.0 (c.in-Err-try_bound.ensures.tried c.args.walk.now.met.pages (has_met c.walk_table.new.walk.met)),
      tt,
      tt,
    )

pub walk_table_from-children-preserved : goal.walk_table_from-children-preserved
walk_table_from-children-preserved g t c = record {
  some = c.children.invariant.some;
  walked = walked_both g.S.Pages c.args.space.now c.children.space c.walk_table.new.space c.args.walk.now.met c.children.walk.met c.walk_table.new.walk.met c.children.invariant.walked c.in-Ok-walk_table.ensures.walked;
  refusal = c.in-Ok-walk_table.ensures.refusal ∙ c.children.invariant.refusal;
  floor = λ floor.
      let risen = c.in-Ok-walk_table.ensures.rises (c.children.invariant.floor floor) (omega (arith, c.in-Ok-try_bound.ensures.above, c.key_of-key.ensures.high)) in
      omega (arith, risen, c.key_of-key.ensures.low, c.key_of-key.ensures.high);
  under = λ under. omega (arith, c.in-Ok-try_bound.ensures.below, c.key_of-key.ensures.low);
  wanted = c.in-Ok-walk_table.ensures.wanted ∙ c.children.invariant.wanted;
  fanned = λ usable pages shows stand holder later at is floor.
      let v = g.V.RowVisitor in
      let now = shows_before g.S.Pages c.children.space c.walk_table.new.space usable pages c.in-Ok-walk_table.ensures.walked.reads shows in
      let rest = drop (c.children.index + 1) c.args.node.now.cells in
      let front = c.in-Some.ensures.front in
      let fanned = c.children.invariant.fanned usable pages now stand holder later at is floor in
      let outlook = v.outlook c.args.visitor.now (walk_rows usable pages c.args.depth.levels c.args.page ++ later) in
      let all = behind_read (table_marks outlook.marks usable pages stand c.args.depth.levels (low_of c.args.bounds.low) (high_of c.args.bounds.high) holder c.args.page) in
      let stands = table_child_stands v usable pages c.args.walk.now.met c.children.walk.met c.children.visitor outlook later all stand c.args.depth.levels (low_of c.children.low) (high_of c.args.bounds.high) c.args.page c.children.leaf
      (drop c.children.index c.args.node.now.cells) rest (cell_seen c.in-Some.parts) c.args.node.now.right front fanned in
      let child = c.in-Ok-walk_table.ensures.tried usable pages shows stand (fan_rows (walk_rows usable pages (c.args.depth.levels - 1)) rest c.args.node.now.right ++ later) stands (c.children.invariant.floor floor) in
      table_fanned_rest v usable pages c.args.walk.now.met c.walk_table.new.walk.met c.walk_table.new.visitor outlook later all stand c.args.depth.levels (high_of c.key_of-key.result) (low_of c.key_of-key.result) (high_of c.args.bounds.high) c.args.page
      (some_level c.in-Ok-walk_table.level) rest _ c.args.node.now.right (c.key_of-key.ensures.high ∙ sym c.key_of-key.ensures.low) refl
      (table_fanned_next v usable pages c.args.walk.now.met c.children.walk.met c.walk_table.new.walk.met c.children.visitor c.walk_table.new.visitor outlook later all stand c.args.depth.levels (low_of c.children.low) (high_of c.args.bounds.high) c.args.page
      (high_of c.key_of-key.result) c.in-Ok-walk_table.level c.children.leaf (drop c.children.index c.args.node.now.cells) rest (cell_seen c.in-Some.parts) c.args.node.now.right c.children.invariant.walked.pages front c.key_of-key.ensures.high child.1 fanned
      child.0 child.2 (c.in-Ok-try_bound.ensures.tried c.args.walk.now.met.pages (has_met c.walk_table.new.walk.met)));
}

pub walk_table_from-returns-clause-tried : goal.walk_table_from-returns-clause-tried
walk_table_from-returns-clause-tried g t c = λ usable pages shows stand holder later at is floor.
    let v = g.V.RowVisitor in
    let T : ℕ → Type 0 = λ r.
    TriesTable g.S.Pages v c.walk_table-2.new.space c.children.walk.met c.walk_table-2.new.walk.met c.children.visitor c.walk_table-2.new.visitor c.children.leaf (c.args.depth.levels - 1) (low_of c.children.low) (high_of c.args.bounds.high) c.args.page r
    c.walk_table-2.result in
    let last = subst T c.right-right.ensures c.walk_table-2.ensures.tried in
    let now = shows_before g.S.Pages c.children.space c.walk_table-2.new.space usable pages c.walk_table-2.ensures.walked.reads shows in
    let outlook = v.outlook c.args.visitor.now (walk_rows usable pages c.args.depth.levels c.args.page ++ later) in
    let all = behind_read (table_marks outlook.marks usable pages stand c.args.depth.levels (low_of c.args.bounds.low) (high_of c.args.bounds.high) holder c.args.page) in
    table_fanned_last v usable pages c.args.walk.now.met c.children.walk.met c.walk_table-2.new.walk.met c.children.visitor c.walk_table-2.new.visitor outlook later all stand c.args.depth.levels (low_of c.children.low) (high_of c.args.bounds.high) c.args.page
    c.children.leaf (drop c.children.index c.args.node.now.cells) c.args.node.now.right c.walk_table-2.result c.children.invariant.walked.pages (none_left (drop c.children.index c.args.node.now.cells) c.in_default.ensures.front) (c.children.invariant.fanned usable pages now stand holder later at is floor)
    (λ stands. last usable pages shows stand later stands (c.children.invariant.floor floor))
