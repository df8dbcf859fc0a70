use Rattle.std.proofs.Common.{◌∙◌}
use Rattle.spe_freelist.proofs.TrunkLemmas.{fifteen_more}
use Rattle.spe_freelist.proofs.trunk.add_fifteen.Goals as goal

pub loop-index-preserved : goal.loop-index-preserved
loop-index-preserved c = record {
  leaves = fifteen_more c.args.first c.loop-index.index c.loop-index.page c.add_leaf.new.page c.loop-index.invariant.leaves c.add_leaf.ensures.leaves;
  reserved = c.add_leaf.ensures.reserved ∙ c.loop-index.invariant.reserved;
  len = c.add_leaf.ensures.len ∙ c.loop-index.invariant.len;
}
