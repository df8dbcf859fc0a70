use Rattle.std.proofs.Common.{arith, to_z-of_z}
use Rattle.spe_exec.proofs.BoundsLemmas.{above_some, above_none}
use Rattle.spe_exec.proofs.bounds.above.Goals as goal

pub returns-in-Some : goal.returns-in-Some
returns-in-Some c = above_some c.args.span c.from.result c.args.number _ c.in-Some.above _ c.next.result (grind (arith, to_z-of_z)) (grind (arith, to_z-of_z)) c.in-Some.is c.next.ensures c.from.ensures

pub returns-in-None : goal.returns-in-None
returns-in-None c = above_none c.args.span c.args.number _ c.next.result (grind (arith, to_z-of_z)) c.in-None.is c.next.ensures
