use Rattle.std.proofs.Common.{◌∙◌, true, false, Ok, Err, refl, sym, arith}
use Rattle.spe_format.specs.View.{cell_seen}
use Rattle.spe_space.specs.declared.fault.TreeFault.TheVariants.{Corrupt}
use Rattle.spe_search.proofs.FoundLemmas.{reads_twice}
use Rattle.spe_search.proofs.PlaceLemmas.{hole_there}
use Rattle.spe_search.proofs.TakingLemmas.{below_faulty, below_none, below_refused, children_below, children_end, children_hole, children_hole_names, children_last, children_last_misses, children_last_names, children_misses, children_more, children_names, children_none, early_err, early_false, fault_faulty, hands_as, hands_both, hands_first, hands_none, interior_missing, kind_faulty, leaf_below, leaf_missing, leaf_names, names_faulty, page_missing}
use Rattle.spe_space.specs.Calls.{sight}
use Rattle.spe_search.proofs.StepLemmas.{shown_same}
use Rattle.spe_search.proofs.each.+below.Goals as goal

pub hand_below-returns-then-levels-eq0-clause-rows : goal.hand_below-returns-then-levels-eq0-clause-rows
hand_below-returns-then-levels-eq0-clause-rows g t c =
    hands_none g.T.RowTaker g.met.T.RowTaker.none c.args.taker.now c.args.out.now (Corrupt c.args.page) _ (below_none g.S.Pages c.args.space.now c.args.page c.args.levels (omega (arith, c.if-levels-eq0.true)))

pub hand_below-returns-in-Err-clause-rows : goal.hand_below-returns-in-Err-clause-rows
hand_below-returns-in-Err-clause-rows g t c =
    hands_none g.T.RowTaker g.met.T.RowTaker.none c.args.taker.now c.args.out.now c.in-Err.fault _
    (below_refused g.S.Pages c.args.space.now c.read_page.new.space c.args.page c.args.levels c.in-Err.fault c.in-Err.ensures.refused)

pub hand_below-returns-in-Err-clause-page_out : goal.hand_below-returns-in-Err-clause-page_out
hand_below-returns-in-Err-clause-page_out g t c = page_missing g.S.Pages c.args.space.now c.read_page.new.space c.args.page (Err c.in-Err.fault) c.in-Err.ensures.page_out

pub hand_below-returns-in_default-clause-rows : goal.hand_below-returns-in_default-clause-rows
hand_below-returns-in_default-clause-rows g t c =
    hands_none g.T.RowTaker g.met.T.RowTaker.none c.args.taker.now c.args.out.now (Corrupt c.args.page) _
    (below_faulty g.S.Pages c.args.space.now c.read_page.new.space c.args.page c.args.levels
    (λ pages agrees. fault_faulty _ _ _ _ _ _ _ c.usable-usable.ensures.value (c.as_slice.ensures.value ∙ c.in-Ok.ensures.got pages agrees) c.header_of.ensures.value c.in_default.ensures.fault))

pub hand_below-returns-in-TableLeaf-clause-rows : goal.hand_below-returns-in-TableLeaf-clause-rows
hand_below-returns-in-TableLeaf-clause-rows g t c =
    hands_as g.T.RowTaker c.args.taker.now c.hand_rows.new.taker c.args.out.now c.hand_rows.new.out c.hand_rows.result c.hand_rows.result _ _ refl
    (leaf_below g.S.Pages c.args.space.now c.read_page.new.space c.hand_rows.new.space c.args.page c.args.levels c.in-Ok-new.view c.hand_rows.result c.in-Ok.ensures.kept.used c.in-Ok.ensures.kept.laid (omega (arith, c.if-levels-eq0.false)) (sym c.kind.ensures ∙ c.in-TableLeaf.is)
    (λ pages agrees. shown_same _ _ _ _ _ _ c.in-Ok-new.view c.usable-usable.ensures.value (c.as_slice.ensures.value ∙ c.in-Ok.ensures.got pages (c.hand_rows.ensures.kept.earlier pages agrees))
    c.header_of.ensures.value c.in-Ok-new.ensures.shown)) c.hand_rows.ensures.rows

pub hand_below-returns-in-TableLeaf-clause-damage : goal.hand_below-returns-in-TableLeaf-clause-damage
hand_below-returns-in-TableLeaf-clause-damage g t c =
    leaf_names g.S.Pages c.args.space.now c.read_page.new.space c.hand_rows.new.space c.args.page c.args.levels c.in-Ok-new.view c.hand_rows.result c.in-Ok.ensures.kept.used c.in-Ok.ensures.kept.laid (omega (arith, c.if-levels-eq0.false))
    (λ pages agrees. shown_same _ _ _ _ _ _ c.in-Ok-new.view c.usable-usable.ensures.value (c.as_slice.ensures.value ∙ c.in-Ok.ensures.got pages (c.hand_rows.ensures.kept.earlier pages agrees))
    c.header_of.ensures.value c.in-Ok-new.ensures.shown) c.hand_rows.ensures.damage

pub hand_below-returns-in-TableLeaf-clause-page_out : goal.hand_below-returns-in-TableLeaf-clause-page_out
hand_below-returns-in-TableLeaf-clause-page_out g t c =
    leaf_missing g.S.Pages c.args.space.now c.read_page.new.space c.hand_rows.new.space c.args.page c.in-Ok-new.view c.hand_rows.result c.in-Ok.ensures.kept.used c.in-Ok.ensures.kept.laid (sym c.kind.ensures ∙ c.in-TableLeaf.is)
    (λ pages agrees. shown_same _ _ _ _ _ _ c.in-Ok-new.view c.usable-usable.ensures.value (c.as_slice.ensures.value ∙ c.in-Ok.ensures.got pages (c.hand_rows.ensures.kept.earlier pages agrees))
    c.header_of.ensures.value c.in-Ok-new.ensures.shown) c.hand_rows.ensures.page_out

pub hand_below-returns-in-TableInterior-clause-rows : goal.hand_below-returns-in-TableInterior-clause-rows
hand_below-returns-in-TableInterior-clause-rows g t c =
    hands_as g.T.RowTaker c.args.taker.now c.hand_children.new.taker c.args.out.now c.hand_children.new.out c.hand_children.result c.hand_children.result _ _ refl
    (children_below g.S.Pages c.args.space.now c.read_page.new.space c.hand_children.new.space c.args.page c.args.levels c.in-Ok-new.view c.hand_children.result c.in-Ok.ensures.kept.used c.in-Ok.ensures.kept.laid (sym c.kind.ensures ∙ c.in-TableInterior.is)
    (λ pages agrees. shown_same _ _ _ _ _ _ c.in-Ok-new.view c.usable-usable.ensures.value (c.as_slice.ensures.value ∙ c.in-Ok.ensures.got pages (c.hand_children.ensures.kept.earlier pages agrees))
    c.header_of.ensures.value c.in-Ok-new.ensures.shown)) c.hand_children.ensures.rows

pub hand_below-returns-in-TableInterior-clause-page_out : goal.hand_below-returns-in-TableInterior-clause-page_out
hand_below-returns-in-TableInterior-clause-page_out g t c =
    interior_missing g.S.Pages c.args.space.now c.read_page.new.space c.hand_children.new.space c.args.page c.in-Ok-new.view c.hand_children.result c.in-Ok.ensures.kept.used c.in-Ok.ensures.kept.laid (sym c.kind.ensures ∙ c.in-TableInterior.is)
    (λ pages agrees. shown_same _ _ _ _ _ _ c.in-Ok-new.view c.usable-usable.ensures.value (c.as_slice.ensures.value ∙ c.in-Ok.ensures.got pages (c.hand_children.ensures.kept.earlier pages agrees))
    c.header_of.ensures.value c.in-Ok-new.ensures.shown) c.hand_children.ensures.page_out

pub hand_below-returns-clause-rows : goal.hand_below-returns-clause-rows
hand_below-returns-clause-rows g t c =
    hands_none g.T.RowTaker g.met.T.RowTaker.none c.args.taker.now c.args.out.now (Corrupt c.args.page) _
    (below_faulty g.S.Pages c.args.space.now c.read_page.new.space c.args.page c.args.levels (λ pages agrees. kind_faulty (g.S.Pages.used c.args.space.now) (sight g.S.Pages c.args.space.now pages) c.args.page c.in-Ok-new.view c.kind.result c.kind.ensures
    (shown_same _ _ _ _ _ _ c.in-Ok-new.view c.usable-usable.ensures.value (c.as_slice.ensures.value ∙ c.in-Ok.ensures.got pages agrees) c.header_of.ensures.value c.in-Ok-new.ensures.shown) c.in-IndexLeaf.is))

pub hand_below-returns-clause-damage : goal.hand_below-returns-clause-damage
hand_below-returns-clause-damage g t c = names_faulty g.S.Pages c.args.space.now c.read_page.new.space c.args.page c.args.levels (omega (arith, c.if-levels-eq0.false)) (λ pages agrees. kind_faulty (g.S.Pages.used c.args.space.now) (sight g.S.Pages c.args.space.now pages) c.args.page c.in-Ok-new.view c.kind.result c.kind.ensures
    (shown_same _ _ _ _ _ _ c.in-Ok-new.view c.usable-usable.ensures.value (c.as_slice.ensures.value ∙ c.in-Ok.ensures.got pages agrees) c.header_of.ensures.value c.in-Ok-new.ensures.shown) c.in-IndexLeaf.is)

pub hand_children-children-init : goal.hand_children-children-init
hand_children-children-init g t c = record {
  some = c.requires.some;
  within = omega arith;
  kept = record {
    earlier = λ pages agrees. agrees;
    laid = refl;
    free = refl;
    stands = λ pages agrees stood. stood;
    told = refl;
    size = refl;
    used = refl;
    limit = refl;
    sealed = refl;
    count = omega arith;
  };
  refusal = refl;
  handed = hands_first g.T.RowTaker g.met.T.RowTaker.none c.args.taker.now c.args.out.now _ (children_none g.S.Pages c.args.space.now c.args.page c.args.levels c.args.view.now);
}

pub hand_children-returns-in_default-clause-rows : goal.hand_children-returns-in_default-clause-rows
hand_children-returns-in_default-clause-rows g t c =
    hands_as g.T.RowTaker c.args.taker.now c.children.taker c.args.out.now c.children.out (Ok true) (Err (Corrupt c.args.page)) _ _ refl
    (children_hole g.S.Pages c.args.space.now c.children.space c.args.page c.args.levels c.args.view.now c.children.index
    (hole_there c.args.view.now.cells c.children.index c.in_default.ensures (omega (arith, c.children-test.true, c.count-count.ensures)))) c.children.invariant.handed

pub hand_children-returns-in_default-clause-damage : goal.hand_children-returns-in_default-clause-damage
hand_children-returns-in_default-clause-damage g t c =
    children_hole_names g.S.Pages c.args.space.now c.children.space c.args.page c.args.levels c.args.view.now c.requires.some
    (hole_there c.args.view.now.cells c.children.index c.in_default.ensures (omega (arith, c.children-test.true, c.count-count.ensures)))

pub hand_children-returns-in-Ok-false-clause-rows : goal.hand_children-returns-in-Ok-false-clause-rows
hand_children-returns-in-Ok-false-clause-rows g t c =
    hands_both g.T.RowTaker g.met.T.RowTaker.both c.args.taker.now c.children.taker c.hand_below.new.taker c.args.out.now c.children.out c.hand_below.new.out (Ok false) _ _ _
    (children_end g.S.Pages c.args.space.now c.children.space c.hand_below.new.space c.args.page c.args.levels c.args.view.now c.children.index (cell_seen c.in-Some.parts) (Ok false) early_false c.requires.some
    c.children.invariant.kept c.in-Ok-false.ensures.kept c.in-Some.ensures (omega (arith, c.children-test.true, c.count-count.ensures)))
    c.children.invariant.handed (rw c.in-Ok-false.field-0-test at c.in-Ok-false.ensures.rows)

pub hand_children-returns-in-Err-clause-rows : goal.hand_children-returns-in-Err-clause-rows
hand_children-returns-in-Err-clause-rows g t c =
    hands_both g.T.RowTaker g.met.T.RowTaker.both c.args.taker.now c.children.taker c.hand_below.new.taker c.args.out.now c.children.out c.hand_below.new.out (Err c.in-Err.fault) _ _ _
    (children_end g.S.Pages c.args.space.now c.children.space c.hand_below.new.space c.args.page c.args.levels c.args.view.now c.children.index (cell_seen c.in-Some.parts) (Err c.in-Err.fault) (early_err c.in-Err.fault) c.requires.some
    c.children.invariant.kept c.in-Err.ensures.kept c.in-Some.ensures (omega (arith, c.children-test.true, c.count-count.ensures)))
    c.children.invariant.handed c.in-Err.ensures.rows

pub hand_children-returns-in-Err-clause-damage : goal.hand_children-returns-in-Err-clause-damage
hand_children-returns-in-Err-clause-damage g t c =
    children_names g.S.Pages c.args.space.now c.children.space c.hand_below.new.space c.args.page c.args.levels c.args.view.now c.children.index (cell_seen c.in-Some.parts) (Err c.in-Err.fault) c.requires.some
    c.children.invariant.kept c.in-Some.ensures c.in-Err.ensures.damage

pub hand_children-returns-in-Err-clause-page_out : goal.hand_children-returns-in-Err-clause-page_out
hand_children-returns-in-Err-clause-page_out g t c =
    children_misses g.S.Pages c.args.space.now c.children.space c.hand_below.new.space c.args.view.now c.children.index (cell_seen c.in-Some.parts) (Err c.in-Err.fault)
    c.children.invariant.kept c.in-Some.ensures (omega (arith, c.children-test.true, c.count-count.ensures)) c.in-Err.ensures.page_out

pub hand_children-children-preserved : goal.hand_children-children-preserved
hand_children-children-preserved g t c = record {
  some = c.requires.some;
  within = omega (arith, c.children-test.true);
  kept = reads_twice g.S.Pages c.args.space.now c.children.space c.hand_below.new.space c.children.invariant.kept c.in-Ok-true.ensures.kept;
  refusal = c.in-Ok-true.ensures.refusal ∙ c.children.invariant.refusal;
  handed = hands_both g.T.RowTaker g.met.T.RowTaker.both c.args.taker.now c.children.taker c.hand_below.new.taker c.args.out.now c.children.out c.hand_below.new.out (Ok true) _ _ _
      (children_more g.S.Pages c.args.space.now c.children.space c.hand_below.new.space c.args.page c.args.levels c.args.view.now c.children.index (cell_seen c.in-Some.parts) (Ok true) refl c.requires.some
      c.children.invariant.kept c.in-Ok-true.ensures.kept c.in-Some.ensures (omega (arith, c.children-test.true, c.count-count.ensures)))
      c.children.invariant.handed (rw c.in-Ok-true.field-0-test at c.in-Ok-true.ensures.rows);
}

pub hand_children-returns-clause-rows : goal.hand_children-returns-clause-rows
hand_children-returns-clause-rows g t c =
    hands_both g.T.RowTaker g.met.T.RowTaker.both c.args.taker.now c.children.taker c.hand_below-2.new.taker c.args.out.now c.children.out c.hand_below-2.new.out c.hand_below-2.result _ _ _
    (children_last g.S.Pages c.args.space.now c.children.space c.hand_below-2.new.space c.args.page c.args.levels c.args.view.now c.children.index c.right.result c.hand_below-2.result c.requires.some
    c.children.invariant.kept c.hand_below-2.ensures.kept (omega (arith, c.children-test.false, c.count-count.ensures)) c.right.ensures)
    c.children.invariant.handed c.hand_below-2.ensures.rows

pub hand_children-returns-clause-damage : goal.hand_children-returns-clause-damage
hand_children-returns-clause-damage g t c =
    children_last_names g.S.Pages c.args.space.now c.children.space c.hand_below-2.new.space c.args.page c.args.levels c.args.view.now c.right.result c.hand_below-2.result c.requires.some
    c.children.invariant.kept c.right.ensures c.hand_below-2.ensures.damage

pub hand_children-returns-clause-page_out : goal.hand_children-returns-clause-page_out
hand_children-returns-clause-page_out g t c =
    children_last_misses g.S.Pages c.args.space.now c.children.space c.hand_below-2.new.space c.args.view.now c.right.result c.hand_below-2.result
    c.children.invariant.kept c.right.ensures c.hand_below-2.ensures.page_out
