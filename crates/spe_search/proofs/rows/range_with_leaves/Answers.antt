use Rattle.std.proofs.Common.{List, Err, arith, to_z-of_z}
use Rattle.spe_space.specs.Calls.{sight}
use Rattle.spe_search.specs.declared.pairs.Pair.{Pair}
use Rattle.spe_search.specs.Leaves.{IsRead}
use Rattle.spe_search.proofs.AddsLemmas.{adds_ranks}
use Rattle.spe_search.proofs.InsideLemmas.{misses_tree}
use Rattle.spe_search.proofs.LeavesLemmas.{joins_first}
use Rattle.spe_search.proofs.rows.range_with_leaves.Goals as goal

pub returns-in-Ok-clause-leaves : goal.returns-in-Ok-clause-leaves
returns-in-Ok-clause-leaves g c = λ pages agrees row has.
    joins_first (IsRead (g.S.Pages.used c.args.space.now) (sight g.S.Pages c.args.space.now pages) 20 c.args.root) c.new-out.result c.walk.new.out c.new-out.ensures (c.in-Ok.ensures.leaves pages agrees) row has

pub returns-in-Ok-clause-adds : goal.returns-in-Ok-clause-adds
returns-in-Ok-clause-adds g c =
    adds_ranks g.S.Pages c.args.space.now c.walk.new.space c.args.root _ _ _ _ c.args.low c.args.high c.rank_of.ensures c.rank_of-2.ensures
    (grind (arith, to_z-of_z)) (grind (arith, to_z-of_z)) c.in-Ok.ensures.adds

pub returns-clause-adds : goal.returns-clause-adds
returns-clause-adds g c =
    adds_ranks g.S.Pages c.args.space.now c.walk.new.space c.args.root _ _ _ _ c.args.low c.args.high c.rank_of.ensures c.rank_of-2.ensures
    (grind (arith, to_z-of_z)) (grind (arith, to_z-of_z)) c.in-Err.ensures.adds

pub returns-clause-inside : goal.returns-clause-inside
returns-clause-inside g c = misses_tree {X = List Pair} g.S.Pages c.args.space.now c.walk.new.space c.args.root _ _ (Err c.in-Err.fault) c.in-Err.ensures.page_out
