use Rattle.std.proofs.Common.{refl, ◌∙◌, arith}
use Rattle.spe_space.specs.Calls.{reads_both}
use Rattle.spe_opening.proofs.BelowLemmas.{child_failed, child_tested, children_tested, leaf_tested, page_bare, page_unread, test_begun}
use Rattle.spe_opening.proofs.ListLemmas.{front_here, none_left}
use Rattle.spe_opening.proofs.below.+test_below.Goals as goal

pub returns-then-height-eq0-clause-tests : goal.returns-then-height-eq0-clause-tests
returns-then-height-eq0-clause-tests g t c = λ pages agrees count levels stands same. leaf_tested _ _ c.args.page c.args.height levels c.if-height-eq0.true same

pub returns-in-Err-clause-tests : goal.returns-in-Err-clause-tests
returns-in-Err-clause-tests g t c = page_unread (Unit {0}) g.S.Pages c.args.space.now c.see_node.new.space c.args.page c.args.height c.in-Err.fault c.in-Err.ensures.given

pub loop-left-preserved : goal.loop-left-preserved
loop-left-preserved g t c = record {
  kept = reads_both g.S.Pages c.args.space.now c.loop-left.space c.test_below.new.space c.loop-left.invariant.kept c.in-Ok-test_below.ensures.kept;
  refusal = c.in-Ok-test_below.ensures.refusal ∙ c.loop-left.invariant.refusal;
  buf = omega (arith, c.test_below.auto.buf, c.loop-left.invariant.buf);
  testing = child_tested {X = Unit {0}} g.S.Pages c.args.space.now c.loop-left.space c.test_below.new.space c.args.page c.args.height c.loop-left.left.now _ _ tt
      c.loop-left.invariant.kept c.in-Ok-test_below.ensures.kept (front_here c.loop-left.left.now _ _ (omega (arith, c.in-len1-up.len_at_least)) refl)
      c.loop-left.invariant.testing c.in-Ok-test_below.ensures.tests;
}

pub returns-in-Err-test_below-clause-tests : goal.returns-in-Err-test_below-clause-tests
returns-in-Err-test_below-clause-tests g t c =
    child_failed (Unit {0}) g.S.Pages c.args.space.now c.loop-left.space c.test_below.new.space c.args.page c.args.height c.loop-left.left.now _ _ c.in-Err-test_below.fault
    c.if-height-eq0.false c.loop-left.invariant.kept c.in-Err-test_below.ensures.kept
    (front_here c.loop-left.left.now _ _ (omega (arith, c.in-len1-up.len_at_least)) refl)
    c.loop-left.invariant.testing c.in-Err-test_below.ensures.tests

pub returns-clause-tests : goal.returns-clause-tests
returns-clause-tests g t c =
    children_tested {X = Unit {0}} g.S.Pages c.args.space.now c.loop-left.space c.args.page c.args.height c.loop-left.left.now tt
    c.if-height-eq0.false (none_left c.loop-left.left.now (omega (arith, c.in_default.len_below))) c.loop-left.invariant.testing

pub returns-then-is_bare-clause-tests : goal.returns-then-is_bare-clause-tests
returns-then-is_bare-clause-tests g t c =
    let bare = c.is_bare.ensures.bare c.if-is_bare.true in
    page_bare (Unit {0}) g.S.Pages c.args.space.now c.see_node.new.space c.args.page c.args.height c.in-Ok.node c.if-height-eq0.false bare.0 bare.1 c.in-Ok.ensures.given

pub loop-left-init : goal.loop-left-init
loop-left-init g t c = record {
  kept = c.in-Ok.ensures.kept;
  refusal = c.in-Ok.ensures.refusal;
  buf = omega (arith, c.see_node.auto.buf, c.requires);
  testing = test_begun g.S.Pages c.args.space.now c.see_node.new.space c.args.page c.args.height c.in-Ok.node c.as_slice-left.result.now (c.is_bare.ensures.other c.if-is_bare.false)
      (c.as_slice-left.ensures.value ∙ c.in-Ok-children_of.ensures) c.in-Ok.ensures.given;
}
