use Rattle.std.proofs.Common.{◌≡◌, ℕ, Bool, ◌&&◌, ◌∙◌, leb, map, sym, ap, arith, inl, refl}
use Rattle.spe_model.specs.Tree.{rank}
use Rattle.spe_format.specs.View.{cell_seen}
use Rattle.spe_search.specs.Pairs.{pair_seen}
use Rattle.spe_search.proofs.LeavesLemmas.{joins_row}
use Rattle.spe_search.proofs.PlaceLemmas.{hole_there}
use Rattle.spe_search.proofs.RangeLemmas.{pushed_skip, pushed_more, pushed_fault, damage_row, adds_row_more}
use Rattle.spe_search.proofs.MissLemmas.{misses_rows}
use Rattle.spe_search.proofs.FoundLemmas.{reads_twice}
use Rattle.spe_search.proofs.rows.push_rows.Goals.{then-is_within+in-Ok, else-is_within}
use Rattle.spe_search.proofs.rows.push_rows.Goals as goal

pub returns-in_default-clause-rows : goal.returns-in_default-clause-rows
returns-in_default-clause-rows g c = λ pages agrees cells e a b rows.
    hole_there c.args.view.now.cells c.loop-index.index c.in_default.ensures (omega (arith, c.loop-index-test.true, c.count-count.ensures)) cells e

pub returns-in_default-clause-damage : goal.returns-in_default-clause-damage
returns-in_default-clause-damage g c = λ pages agrees.
    inl (refl, hole_there c.args.view.now.cells c.loop-index.index c.in_default.ensures (omega (arith, c.loop-index-test.true, c.count-count.ensures)))

pub returns-in-Err-clause-rows : goal.returns-in-Err-clause-rows
returns-in-Err-clause-rows g c =
    pushed_fault (Unit {0}) (Unit {0}) g.S.Pages c.args.space.now c.loop-index.space c.push_row.new.space c.args.view.now.cells c.args.low c.args.high c.loop-index.index (cell_seen c.in-Some.parts) c.in-Err.fault
    (map pair_seen c.args.out.now) (map pair_seen c.loop-index.out) (map pair_seen c.push_row.new.out) (map pair_seen c.push_row.new.out) c.loop-index.invariant.kept c.in-Some.ensures (omega (arith, c.loop-index-test.true, c.count-count.ensures)) c.in-Err.ensures.rows

pub returns-in-Err-clause-damage : goal.returns-in-Err-clause-damage
returns-in-Err-clause-damage g c =
    damage_row (Unit {0}) (Unit {0}) g.S.Pages c.args.space.now c.loop-index.space c.push_row.new.space c.args.page c.args.view.now.cells c.loop-index.index (cell_seen c.in-Some.parts) c.in-Err.fault
    c.loop-index.invariant.kept c.in-Some.ensures c.in-Err.ensures.damage

same_within : (low high key rank_key : ℕ) (inside : Bool) → inside ≡ (leb low key && leb key high) → key ≡ rank_key → inside ≡ (leb low rank_key && leb rank_key high)
same_within low high key rank_key inside e same = e ∙ ap (λ k. leb low k && leb k high) same

pub returns-in-Err-clause-adds : goal.returns-in-Err-clause-adds
returns-in-Err-clause-adds g c =
    adds_row_more g.S.Pages c.args.space.now c.loop-index.space c.push_row.new.space c.args.view.now.cells c.args.low c.args.high c.loop-index.index (cell_seen c.in-Some.parts)
    c.loop-index.invariant.kept c.in-Err.ensures.kept c.in-Some.ensures
    (sym (same_within c.args.low c.args.high c.key_of.result (rank c.in-Some.parts.key) c.is_within.result c.is_within.ensures c.key_of.ensures) ∙ c.if-is_within.true)
    c.loop-index.invariant.adds c.in-Err.ensures.adds

pub returns-in-Err-clause-page_out : goal.returns-in-Err-clause-page_out
returns-in-Err-clause-page_out g c =
    misses_rows (Unit {0}) (Unit {0}) g.S.Pages c.args.space.now c.loop-index.space c.push_row.new.space c.args.view.now.cells c.args.low c.args.high c.loop-index.index (cell_seen c.in-Some.parts) c.in-Err.fault
    c.loop-index.invariant.kept c.in-Some.ensures
    (sym (same_within c.args.low c.args.high c.key_of.result (rank c.in-Some.parts.key) c.is_within.result c.is_within.ensures c.key_of.ensures) ∙ c.if-is_within.true)
    c.in-Err.ensures.page_out

pub loop-index-preserved : goal.loop-index-preserved
loop-index-preserved g c =
    let cell = cell_seen c.in-Some.parts in
    let same = same_within c.args.low c.args.high c.key_of.result (rank c.in-Some.parts.key) c.is_within.result c.is_within.ensures c.key_of.ensures in
    elim c.if-is_within.branch [
      | then-is_within+in-Ok w ↦ rw (w.space-is, w.buf-is, w.out-is) (record {
        within = omega (arith, c.loop-index-test.true);
        kept = reads_twice g.S.Pages c.args.space.now c.loop-index.space w.push_row.new.space c.loop-index.invariant.kept w.in-Ok.ensures.kept;
        refusal = w.in-Ok.ensures.refusal ∙ c.loop-index.invariant.refusal;
        buf = omega (arith, w.push_row.auto.buf, c.loop-index.invariant.buf);
        pushed = pushed_more (Unit {0}) tt g.S.Pages c.args.space.now c.loop-index.space w.push_row.new.space c.args.view.now.cells c.args.low c.args.high c.loop-index.index cell
            (map pair_seen c.args.out.now) (map pair_seen c.loop-index.out) (map pair_seen w.push_row.new.out) c.loop-index.invariant.kept w.in-Ok.ensures.kept c.loop-index.invariant.pushed c.in-Some.ensures
            (omega (arith, c.loop-index-test.true, c.count-count.ensures)) (sym same ∙ w.if-is_within.true) w.in-Ok.ensures.rows;
        adds = adds_row_more g.S.Pages c.args.space.now c.loop-index.space w.push_row.new.space c.args.view.now.cells c.args.low c.args.high c.loop-index.index cell
            c.loop-index.invariant.kept w.in-Ok.ensures.kept c.in-Some.ensures (sym same ∙ w.if-is_within.true) c.loop-index.invariant.adds w.in-Ok.ensures.adds;
        leaf = joins_row g.S.Pages c.args.space.now c.loop-index.space w.push_row.new.space c.args.page c.args.view.now.cells c.loop-index.index cell
            c.args.out.now c.loop-index.out w.push_row.new.out c.loop-index.invariant.kept w.in-Ok.ensures.kept c.in-Some.ensures c.loop-index.invariant.leaf w.in-Ok.ensures.leaf;
      })
      | else-is_within w ↦ rw (w.space-is, w.buf-is, w.out-is) (record {
        within = omega (arith, c.loop-index-test.true);
        kept = c.loop-index.invariant.kept;
        refusal = c.loop-index.invariant.refusal;
        buf = c.loop-index.invariant.buf;
        pushed = pushed_skip g.S.Pages c.args.space.now c.loop-index.space c.args.view.now.cells c.args.low c.args.high c.loop-index.index cell
            (map pair_seen c.args.out.now) (map pair_seen c.loop-index.out) c.loop-index.invariant.pushed c.in-Some.ensures (omega (arith, c.loop-index-test.true, c.count-count.ensures)) (sym same ∙ w.if-is_within.false);
        adds = c.loop-index.invariant.adds;
        leaf = c.loop-index.invariant.leaf;
      })
    ]
