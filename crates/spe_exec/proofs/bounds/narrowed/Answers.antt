use Rattle.std.proofs.Common.{arith, to_z-of_z}
use Rattle.spe_exec.proofs.BoundsLemmas.{narrow_equal, narrow_from, narrow_above}
use Rattle.spe_exec.proofs.bounds.narrowed.Goals as goal

pub returns-in-Equal : goal.returns-in-Equal
returns-in-Equal c = narrow_equal c.args.span c.from.result c.up_to.result c.args.cond.now _ _ c.in-Equal.is (grind (arith, to_z-of_z)) (grind (arith, to_z-of_z)) c.from.ensures c.up_to.ensures

pub returns-in-Greater : goal.returns-in-Greater
returns-in-Greater c = narrow_above c.args.span c.above.result c.args.cond.now _ c.in-Greater.is (grind (arith, to_z-of_z)) c.above.ensures

pub returns-in-GreaterEqual : goal.returns-in-GreaterEqual
returns-in-GreaterEqual c = narrow_from c.args.span c.from-in-GreaterEqual.result c.args.cond.now _ c.in-GreaterEqual.is (grind (arith, to_z-of_z)) c.from-in-GreaterEqual.ensures
