use Rattle.std.proofs.Common.{arith, to_z-of_z}
use Rattle.spe_search.proofs.AddsLemmas.{adds_between}
use Rattle.spe_search.proofs.rows.range.Goals as goal

pub returns-in_err-rows-clause-adds : goal.returns-in_err-rows-clause-adds
returns-in_err-rows-clause-adds g c =
    adds_between g.S.Pages c.args.space.now c.range_with_leaves.new.space c.args.root _ _ c.args.low c.args.high (grind (arith, to_z-of_z)) (grind (arith, to_z-of_z)) c.in_err-rows.ensures.adds

pub returns-clause-adds : goal.returns-clause-adds
returns-clause-adds g c =
    adds_between g.S.Pages c.args.space.now c.range_with_leaves.new.space c.args.root _ _ c.args.low c.args.high (grind (arith, to_z-of_z)) (grind (arith, to_z-of_z)) c.in_ok-rows.ensures.adds
