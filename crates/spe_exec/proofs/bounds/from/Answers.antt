use Rattle.std.proofs.Common.{arith, to_z-of_z}
use Rattle.spe_exec.proofs.BoundsLemmas.{from_larger}
use Rattle.spe_exec.proofs.bounds.from.Goals as goal

pub returns : goal.returns
returns c =
    from_larger c.args.span _ c.args.number _ _ c.larger.result (grind (arith, to_z-of_z)) (grind (arith, to_z-of_z)) (grind (arith, to_z-of_z)) c.larger.ensures (grind (arith, to_z-of_z))
