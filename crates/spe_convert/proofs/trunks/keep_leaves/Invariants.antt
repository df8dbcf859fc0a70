use Rattle.std.proofs.Common.{◌≡◌, ◌++◌, ◌-◌, map, ◌+◌, ◌*◌}
use Rattle.spe_model.specs.Big.{u32_at}
use Rattle.spe_model.specs.Journal.{numbers_from}
use Rattle.spe_convert.proofs.trunks.keep_leaves.Given as goal

abbrev pub invariant-loop-index : goal.invariant-loop-index
invariant-loop-index l =
    l.free.items ++ map (λ i. u32_at l.trunk (8 + 4 * i)) (numbers_from l.index (l.count - l.index))
    ≡ l.fn.free.items ++ map (λ i. u32_at l.trunk (8 + 4 * i)) (numbers_from 0 l.count)
