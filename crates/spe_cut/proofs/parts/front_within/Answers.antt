use Rattle.std.proofs.Common.{arith}
use Rattle.spe_cut.proofs.LoopLemmas.{front_few, front_room, front_turn}
use Rattle.spe_cut.proofs.parts.front_within.Goals as goal

pub overflow_add-size : goal.overflow_add-size
overflow_add-size c = let few = front_room _ _ _ _ _ _ _ c.cell_length-size.result c.loop-left.invariant c.in-len1-up.len_at_least c.cell-item.is c.cell_length-size.ensures in omega (arith, few, c.requires)

pub overflow_add-count : goal.overflow_add-count
overflow_add-count c = let few = front_few _ _ _ _ _ _ c.loop-left.invariant c.in-len1-up.len_at_least in omega (arith, few, c.requires)

pub loop-left-preserved : goal.loop-left-preserved
loop-left-preserved c = front_turn _ _ _ _ _ _ _ c.cell_length-size.result c.loop-left.invariant c.in-len1-up.len_at_least c.cell-item.is c.cell_length-size.ensures c.if-size-most.false
