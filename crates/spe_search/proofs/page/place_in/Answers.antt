use Rattle.std.proofs.Common.{arith}
use Rattle.spe_format.specs.View.{cell_seen}
use Rattle.spe_search.proofs.PlaceLemmas.{hole_there, between_up, between_down}
use Rattle.spe_search.proofs.page.place_in.Goals as goal

pub returns-in_default : goal.returns-in_default
returns-in_default c = hole_there c.args.view.now.cells _ c.in_default.ensures (omega (arith, c.loop-low-test.true, c.loop-low.invariant.within))

pub loop-low-preserved-then-key_of-key : goal.loop-low-preserved-then-key_of-key
loop-low-preserved-then-key_of-key c = record {
  order = omega (arith, c.loop-low-test.true);
  within = c.loop-low.invariant.within;
  between = between_up c.args.view.now.cells c.args.key c.loop-low.low c.loop-low.high _ (cell_seen c.in-Some.parts) c.loop-low.invariant.between
      c.in-Some.ensures (omega (arith, c.loop-low-test.true, c.loop-low.invariant.within)) (omega (arith, c.key_of.ensures, c.if-key_of-key.true));
}

pub loop-low-preserved : goal.loop-low-preserved
loop-low-preserved c = record {
  order = omega arith;
  within = omega (arith, c.loop-low-test.true, c.loop-low.invariant.within);
  between = between_down c.args.view.now.cells c.args.key c.loop-low.low c.loop-low.high _ (cell_seen c.in-Some.parts) c.loop-low.invariant.between
      c.in-Some.ensures (omega (arith, c.loop-low-test.true, c.loop-low.invariant.within)) (omega (arith, c.key_of.ensures, c.if-key_of-key.false));
}
