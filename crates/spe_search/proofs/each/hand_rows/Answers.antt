use Rattle.std.proofs.Common.{◌∙◌, true, false, Bool, Ok, Err, refl, arith, inl}
use Rattle.spe_format.specs.View.{cell_seen}
use Rattle.spe_space.specs.declared.fault.TreeFault.TheVariants.{Corrupt}
use Rattle.spe_search.proofs.FoundLemmas.{reads_twice}
use Rattle.spe_search.proofs.PlaceLemmas.{hole_there}
use Rattle.spe_search.proofs.RangeLemmas.{damage_row}
use Rattle.spe_search.proofs.TakingLemmas.{early_err, early_false, hands_as, hands_both, leaf_done, leaf_ends, leaf_hole, leaf_misses, leaf_more}
use Rattle.spe_search.proofs.each.hand_rows.Goals as goal

pub returns-in_default-clause-rows : goal.returns-in_default-clause-rows
returns-in_default-clause-rows g c =
    hands_as g.T.RowTaker c.args.taker.now c.loop-index.taker c.args.out.now c.loop-index.out (Ok true) (Err (Corrupt c.args.page)) _ _ refl
    (leaf_hole g.S.Pages c.args.space.now c.loop-index.space c.args.page c.args.view.now.cells c.loop-index.index
    (hole_there c.args.view.now.cells c.loop-index.index c.in_default.ensures (omega (arith, c.loop-index-test.true, c.count-count.ensures)))) c.loop-index.invariant.handed

pub returns-in_default-clause-damage : goal.returns-in_default-clause-damage
returns-in_default-clause-damage g c = λ pages agrees.
    inl (refl, hole_there c.args.view.now.cells c.loop-index.index c.in_default.ensures (omega (arith, c.loop-index-test.true, c.count-count.ensures)))

pub returns-in-Ok-false-clause-rows : goal.returns-in-Ok-false-clause-rows
returns-in-Ok-false-clause-rows g c =
    hands_both g.T.RowTaker g.met.T.RowTaker.both c.args.taker.now c.loop-index.taker c.hand_row.new.taker c.args.out.now c.loop-index.out c.hand_row.new.out (Ok false) _ _ _
    (leaf_ends g.S.Pages c.args.space.now c.loop-index.space c.hand_row.new.space c.args.page c.args.view.now.cells c.loop-index.index (cell_seen c.in-Some.parts) (Ok false) early_false
    c.loop-index.invariant.kept c.in-Ok-false.ensures.kept c.in-Some.ensures (omega (arith, c.loop-index-test.true, c.count-count.ensures)))
    c.loop-index.invariant.handed (rw c.in-Ok-false.field-0-test at c.in-Ok-false.ensures.rows)

pub returns-in-Err-clause-rows : goal.returns-in-Err-clause-rows
returns-in-Err-clause-rows g c =
    hands_both g.T.RowTaker g.met.T.RowTaker.both c.args.taker.now c.loop-index.taker c.hand_row.new.taker c.args.out.now c.loop-index.out c.hand_row.new.out (Err c.in-Err.fault) _ _ _
    (leaf_ends g.S.Pages c.args.space.now c.loop-index.space c.hand_row.new.space c.args.page c.args.view.now.cells c.loop-index.index (cell_seen c.in-Some.parts) (Err c.in-Err.fault) (early_err c.in-Err.fault)
    c.loop-index.invariant.kept c.in-Err.ensures.kept c.in-Some.ensures (omega (arith, c.loop-index-test.true, c.count-count.ensures)))
    c.loop-index.invariant.handed c.in-Err.ensures.rows

pub returns-in-Err-clause-damage : goal.returns-in-Err-clause-damage
returns-in-Err-clause-damage g c =
    damage_row Bool Bool g.S.Pages c.args.space.now c.loop-index.space c.hand_row.new.space c.args.page c.args.view.now.cells c.loop-index.index (cell_seen c.in-Some.parts) c.in-Err.fault
    c.loop-index.invariant.kept c.in-Some.ensures c.in-Err.ensures.damage

pub returns-in-Err-clause-page_out : goal.returns-in-Err-clause-page_out
returns-in-Err-clause-page_out g c =
    leaf_misses Bool Bool g.S.Pages c.args.space.now c.loop-index.space c.hand_row.new.space c.args.view.now.cells c.loop-index.index (cell_seen c.in-Some.parts) c.in-Err.fault
    c.loop-index.invariant.kept c.in-Some.ensures c.in-Err.ensures.page_out

pub loop-index-preserved : goal.loop-index-preserved
loop-index-preserved g c = record {
  within = omega (arith, c.loop-index-test.true);
  kept = reads_twice g.S.Pages c.args.space.now c.loop-index.space c.hand_row.new.space c.loop-index.invariant.kept c.in-Ok-true.ensures.kept;
  refusal = c.in-Ok-true.ensures.refusal ∙ c.loop-index.invariant.refusal;
  handed = hands_both g.T.RowTaker g.met.T.RowTaker.both c.args.taker.now c.loop-index.taker c.hand_row.new.taker c.args.out.now c.loop-index.out c.hand_row.new.out (Ok true) _ _ _
      (leaf_more g.S.Pages c.args.space.now c.loop-index.space c.hand_row.new.space c.args.page c.args.view.now.cells c.loop-index.index (cell_seen c.in-Some.parts) (Ok true) refl
      c.loop-index.invariant.kept c.in-Ok-true.ensures.kept c.in-Some.ensures (omega (arith, c.loop-index-test.true, c.count-count.ensures)))
      c.loop-index.invariant.handed (rw c.in-Ok-true.field-0-test at c.in-Ok-true.ensures.rows);
}

pub returns-clause-rows : goal.returns-clause-rows
returns-clause-rows g c =
    hands_as g.T.RowTaker c.args.taker.now c.loop-index.taker c.args.out.now c.loop-index.out (Ok true) (Ok true) _ _ refl
    (leaf_done g.S.Pages c.args.space.now c.loop-index.space c.args.page c.args.view.now.cells c.loop-index.index (omega (arith, c.loop-index-test.false, c.count-count.ensures))) c.loop-index.invariant.handed
