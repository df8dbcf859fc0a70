use Rattle.std.proofs.Common.{rules, ◌+◌, ◌*◌}
use Rattle.spe_model.specs.Big.{u32_at}
use Rattle.spe_convert.proofs.ReadLemmas.{numbers_more}
use Rattle.spe_convert.proofs.trunks.keep_leaves.Goals as goal

pub loop-index-preserved : goal.loop-index-preserved
loop-index-preserved c =
    let more = numbers_more (λ i. u32_at c.args.trunk.now (8 + 4 * i)) c.loop-index.free.items _ c.loop-index.index c.args.count c.loop-index-test.true c.loop-index.invariant in
    search (rules, more)
