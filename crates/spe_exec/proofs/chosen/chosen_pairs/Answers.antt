use Rattle.std.proofs.Common.{◌≡◌, List, [], map, ap, ◌∙◌, arith, of_z, w64, to_z-of_z}
use Rattle.std.specs.List.{Contains}
use Rattle.spe_search.specs.declared.pairs.Pair.{Pair}
use Rattle.spe_search.specs.Pairs.{pair_seen}
use Rattle.spe_space.specs.Calls.{sight}
use Rattle.spe_exec.proofs.KeysLemmas.{rowid_of_bits}
use Rattle.spe_exec.proofs.ChosenLemmas.{found_none, found_some, answers_to}
use Rattle.spe_exec.proofs.AddsLemmas.{adds_range}
use Rattle.spe_exec.proofs.MissesLemmas.{misses_range}
use Rattle.spe_exec.proofs.chosen.chosen_pairs.Goals as goal

pub returns-in-Some-clause-found : goal.returns-in-Some-clause-found
returns-in-Some-clause-found g c = λ pages agrees height tree.
    answers_to (map pair_seen) _ _ c.range_with_leaves.result
    (found_some (g.S.Pages.used c.args.space.now) (sight g.S.Pages c.args.space.now pages) height c.args.root c.args.conds.now c.bounds.result c.in-Some.span _ _ c.in-Some.is c.bounds.ensures
    (grind (arith, to_z-of_z)) (grind (arith, to_z-of_z)) (rowid_of_bits (of_z w64 c.in-Some.span.low)) (rowid_of_bits (of_z w64 c.in-Some.span.high)))
    (c.range_with_leaves.ensures.found pages agrees height tree)

pub returns-in-None-clause-found : goal.returns-in-None-clause-found
returns-in-None-clause-found g c = λ pages agrees height tree.
    ap (λ (xs : List Pair). map pair_seen xs) c.new.ensures
    ∙ found_none (g.S.Pages.used c.args.space.now) (sight g.S.Pages c.args.space.now pages) height c.args.root c.args.conds.now c.bounds.result c.in-None.is c.bounds.ensures

pub returns-in-Some-clause-adds : goal.returns-in-Some-clause-adds
returns-in-Some-clause-adds g c = λ pages agrees height tree.
    adds_range g.S.Pages c.args.space.now c.range_with_leaves.new.space c.args.root c.args.conds.now c.bounds.result c.in-Some.span _ _ c.in-Some.is c.bounds.ensures (grind (arith, to_z-of_z)) (grind (arith, to_z-of_z))
    c.range_with_leaves.ensures.adds pages agrees height tree

pub returns-in-Some-clause-page_out : goal.returns-in-Some-clause-page_out
returns-in-Some-clause-page_out g c = λ pages agrees height tree.
    misses_range g.S.Pages c.args.space.now c.range_with_leaves.new.space c.args.root c.args.conds.now c.range_with_leaves.result c.bounds.result c.in-Some.span _ _ c.in-Some.is c.bounds.ensures (grind (arith, to_z-of_z))
    (grind (arith, to_z-of_z)) c.range_with_leaves.ensures.page_out pages agrees height tree

no_rows : (rows : List Pair) (row : Pair) → rows ≡ [] → Contains rows row → ⊥
no_rows rows row e has = let none = rw e at has in let lt = none.1 in omega (arith, lt)

pub returns-in-None-clause-leaves : goal.returns-in-None-clause-leaves
returns-in-None-clause-leaves g c = λ pages agrees row has. absurd (no_rows c.new.result row c.new.ensures has)
