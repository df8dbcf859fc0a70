use Rattle.std.proofs.Common.{◌≡◌, ◌++◌, ◌-◌, map, ◌+◌, ◌*◌}
use Rattle.spe_model.specs.Big.{u32_at}
use Rattle.spe_model.specs.Journal.{numbers_from}
use Rattle.spe_convert.proofs.free.firsts_in.Given as goal

abbrev pub invariant-loop-index : goal.invariant-loop-index
invariant-loop-index l =
    l.trunks.items ++ map (λ i. u32_at l.page (4 + 4 * i)) (numbers_from l.index (l.count - l.index)) ≡ map (λ i. u32_at l.page (4 + 4 * i)) (numbers_from 0 l.count)
