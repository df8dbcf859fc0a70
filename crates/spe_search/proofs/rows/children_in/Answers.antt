use Rattle.std.proofs.Common.{◌∙◌, arith}
use Rattle.spe_format.specs.View.{cell_seen}
use Rattle.spe_search.proofs.PlaceLemmas.{hole_there}
use Rattle.spe_search.proofs.RangeLemmas.{listed_skip, listed_push, listed_last, shown_push}
use Rattle.spe_search.proofs.rows.children_in.Goals.{then-low-key+in_ok-push+else-is_last, else-low-key}
use Rattle.spe_search.proofs.rows.children_in.Goals as goal

pub returns-in_default : goal.returns-in_default
returns-in_default c = hole_there c.args.view.now.cells c.loop-index.index c.in_default.ensures (omega (arith, c.loop-index-test.true, c.count-count.ensures))

pub returns-then-is_last : goal.returns-then-is_last
returns-then-is_last c =
    let cell = cell_seen c.in-Some.parts in (
      shown_push c.args.view.now.cells c.args.view.now.right c.loop-index.index cell c.loop-index.children.items c.push.new.self.items c.in-Some.ensures c.loop-index.invariant.shown c.in_ok-push.ensures.items,
      λ cells e. c.in_ok-push.ensures.items
          ∙ listed_last c.args.view.now.cells c.args.view.now.right c.args.low c.args.high c.loop-index.index cell c.loop-index.children.items c.loop-index.invariant.listed c.in-Some.ensures
          (omega (arith, c.loop-index-test.true, c.count-count.ensures)) (omega (arith, c.if-low-key.true, c.key_of-key.ensures)) (let h = c.is_last.ensures.last c.if-is_last.true in omega (arith, h, c.key_of-key.ensures)) cells e,
    )

pub loop-index-preserved : goal.loop-index-preserved
loop-index-preserved c = elim c.if-low-key.branch [
  | then-low-key+in_ok-push+else-is_last w ↦ rw w.children-is (record {
    within = omega (arith, c.loop-index-test.true);
    shown = shown_push c.args.view.now.cells c.args.view.now.right c.loop-index.index (cell_seen c.in-Some.parts) c.loop-index.children.items w.push.new.self.items c.in-Some.ensures c.loop-index.invariant.shown w.in_ok-push.ensures.items;
    listed = listed_push c.args.view.now.cells c.args.view.now.right c.args.low c.args.high c.loop-index.index (cell_seen c.in-Some.parts) c.loop-index.children.items w.push.new.self.items c.loop-index.invariant.listed c.in-Some.ensures
        (omega (arith, c.loop-index-test.true, c.count-count.ensures)) (omega (arith, w.if-low-key.true, c.key_of-key.ensures)) (let h = w.is_last.ensures.more w.if-is_last.false in omega (arith, h, c.key_of-key.ensures)) w.in_ok-push.ensures.items;
  })
  | else-low-key w ↦ rw w.children-is (record {
    within = omega (arith, c.loop-index-test.true);
    shown = c.loop-index.invariant.shown;
    listed = listed_skip c.args.view.now.cells c.args.view.now.right c.args.low c.args.high c.loop-index.index (cell_seen c.in-Some.parts) c.loop-index.children.items c.loop-index.invariant.listed c.in-Some.ensures
        (omega (arith, c.loop-index-test.true, c.count-count.ensures)) (omega (arith, w.if-low-key.false, c.key_of-key.ensures));
  })
]
