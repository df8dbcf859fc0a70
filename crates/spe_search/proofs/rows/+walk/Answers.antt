use Rattle.std.proofs.Common.{ℕ, ◌∙◌, drop, map, arith}
use Rattle.std.proofs.lemmas.Grind.{common_steps}
use Rattle.std.proofs.lemmas.List.{drop_more}
use Rattle.spe_search.proofs.AddsLemmas.{adds_visit, adds_child}
use Rattle.std.specs.declared.vec.Vec.{Vec}
use Rattle.std.specs.declared.alloc.Global.{Global}
use Rattle.spe_search.specs.Pairs.{pair_seen}
use Rattle.spe_search.proofs.LeavesLemmas.{joins_walk, joins_child}
use Rattle.spe_search.proofs.MissLemmas.{misses_walk, misses_child}
use Rattle.spe_search.proofs.FoundLemmas.{reads_twice}
use Rattle.spe_search.proofs.WalkLemmas.{walked_first, walked_more, walked_fault, walked_names, walked_rest, walked_end}
use Rattle.spe_search.proofs.rows.+walk.Goals as goal

pub loop-left-init : goal.loop-left-init
loop-left-init g t c = record {
  kept = c.in-Ok.ensures.kept;
  refusal = c.in-Ok.ensures.refusal;
  buf = omega (arith, c.visit.auto.buf, c.requires.size);
  spare = omega (arith, c.visit.auto.spare, c.requires.spare);
  walked = walked_first g.S.Pages c.args.space.now c.visit.new.space c.args.page c.args.low c.args.high c.args.levels (map pair_seen c.args.out.now) (map pair_seen c.visit.new.out) c.in-Ok.children _
      c.as_slice-left.ensures.value c.in-Ok.ensures.visits c.in-Ok.ensures.damage;
  adds = adds_visit g.S.Pages c.args.space.now c.visit.new.space c.args.page c.args.low c.args.high c.in-Ok.ensures.adds;
  leaves = joins_walk g.S.Pages c.args.space.now c.visit.new.space c.args.page c.args.levels c.args.out.now c.visit.new.out (omega arith) c.in-Ok.ensures.leaves;
}

pub returns-in-Err-walk-clause-rows : goal.returns-in-Err-walk-clause-rows
returns-in-Err-walk-clause-rows g t c =
    walked_fault g.S.Pages c.args.space.now c.loop-left.space c.walk.new.space c.args.page c.args.low c.args.high c.args.levels _ c.in-Err-walk.fault (map pair_seen c.args.out.now) (map pair_seen c.loop-left.out) (map pair_seen c.walk.new.out) (map pair_seen c.walk.new.out) _ _
    c.loop-left.invariant.kept c.in-Err-walk.ensures.kept (drop_more c.loop-left.left.now 0 _ (omega (arith, c.in-len1-up.len_at_least))) c.loop-left.invariant.walked c.in-Err-walk.ensures.rows

pub returns-in-Err-walk-clause-damage : goal.returns-in-Err-walk-clause-damage
returns-in-Err-walk-clause-damage g t c =
    walked_names g.S.Pages c.args.space.now c.loop-left.space c.walk.new.space c.args.page c.args.low c.args.high c.args.levels _ c.in-Err-walk.fault (map pair_seen c.args.out.now) (map pair_seen c.loop-left.out) _ _ (omega arith)
    c.loop-left.invariant.kept c.in-Err-walk.ensures.kept (drop_more c.loop-left.left.now 0 _ (omega (arith, c.in-len1-up.len_at_least))) c.loop-left.invariant.walked c.in-Err-walk.ensures.damage

pub returns-in-Err-clause-adds : goal.returns-in-Err-clause-adds
returns-in-Err-clause-adds g t c = adds_visit g.S.Pages c.args.space.now c.visit.new.space c.args.page c.args.low c.args.high c.in-Err.ensures.adds

pub returns-in-Err-walk-clause-adds : goal.returns-in-Err-walk-clause-adds
returns-in-Err-walk-clause-adds g t c =
    adds_child g.S.Pages c.args.space.now c.loop-left.space c.walk.new.space c.args.page c.args.low c.args.high c.args.levels _ (map pair_seen c.args.out.now) (map pair_seen c.loop-left.out) _ _
    c.loop-left.invariant.kept c.in-Err-walk.ensures.kept (drop_more c.loop-left.left.now 0 _ (omega (arith, c.in-len1-up.len_at_least))) c.loop-left.invariant.walked c.loop-left.invariant.adds c.in-Err-walk.ensures.adds

pub returns-in-Err-clause-page_out : goal.returns-in-Err-clause-page_out
returns-in-Err-clause-page_out g t c =
    misses_walk (Vec ℕ Global) (Unit {0}) g.S.Pages c.args.space.now c.visit.new.space c.args.page c.args.low c.args.high c.in-Err.fault c.in-Err.ensures.page_out

pub returns-in-Err-walk-clause-page_out : goal.returns-in-Err-walk-clause-page_out
returns-in-Err-walk-clause-page_out g t c =
    misses_child (Unit {0}) (Unit {0}) g.S.Pages c.args.space.now c.loop-left.space c.walk.new.space c.args.page c.args.low c.args.high c.args.levels _ c.in-Err-walk.fault (map pair_seen c.args.out.now) (map pair_seen c.loop-left.out) _ _
    c.loop-left.invariant.kept c.in-Err-walk.ensures.kept (drop_more c.loop-left.left.now 0 _ (omega (arith, c.in-len1-up.len_at_least))) c.loop-left.invariant.walked c.in-Err-walk.ensures.page_out

pub loop-left-preserved : goal.loop-left-preserved
loop-left-preserved g t c = record {
  kept = reads_twice g.S.Pages c.args.space.now c.loop-left.space c.walk.new.space c.loop-left.invariant.kept c.in-Ok-walk.ensures.kept;
  refusal = c.in-Ok-walk.ensures.refusal ∙ c.loop-left.invariant.refusal;
  buf = omega (arith, c.walk.auto.buf, c.loop-left.invariant.buf);
  spare = omega (arith, c.walk.auto.spare, c.loop-left.invariant.spare);
  walked = walked_rest g.S.Pages c.args.space.now c.walk.new.space c.args.page c.args.low c.args.high c.args.levels (map pair_seen c.args.out.now) (map pair_seen c.walk.new.out) (drop 1 c.loop-left.left.now) _ (grind (arith, common_steps))
      (walked_more g.S.Pages c.args.space.now c.loop-left.space c.walk.new.space c.args.page c.args.low c.args.high c.args.levels _ (map pair_seen c.args.out.now) (map pair_seen c.loop-left.out) (map pair_seen c.walk.new.out) _ _
      c.loop-left.invariant.kept c.in-Ok-walk.ensures.kept (drop_more c.loop-left.left.now 0 _ (omega (arith, c.in-len1-up.len_at_least))) c.loop-left.invariant.walked c.in-Ok-walk.ensures.rows);
  adds = adds_child g.S.Pages c.args.space.now c.loop-left.space c.walk.new.space c.args.page c.args.low c.args.high c.args.levels _ (map pair_seen c.args.out.now) (map pair_seen c.loop-left.out) _ _
      c.loop-left.invariant.kept c.in-Ok-walk.ensures.kept (drop_more c.loop-left.left.now 0 _ (omega (arith, c.in-len1-up.len_at_least))) c.loop-left.invariant.walked c.loop-left.invariant.adds c.in-Ok-walk.ensures.adds;
  leaves = joins_child g.S.Pages c.args.space.now c.loop-left.space c.walk.new.space c.args.page c.args.low c.args.high c.args.levels _ (map pair_seen c.args.out.now) (map pair_seen c.loop-left.out) _ _
      c.args.out.now c.loop-left.out c.walk.new.out (omega arith) c.loop-left.invariant.kept c.in-Ok-walk.ensures.kept (drop_more c.loop-left.left.now 0 _ (omega (arith, c.in-len1-up.len_at_least)))
      c.loop-left.invariant.walked c.loop-left.invariant.leaves c.in-Ok-walk.ensures.leaves;
}

pub returns-clause-rows : goal.returns-clause-rows
returns-clause-rows g t c =
    walked_end g.S.Pages c.args.space.now c.loop-left.space c.args.page c.args.low c.args.high c.args.levels (map pair_seen c.args.out.now) (map pair_seen c.loop-left.out) c.loop-left.left.now (omega (arith, c.in_default.len_below)) c.loop-left.invariant.walked
