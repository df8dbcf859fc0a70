use Rattle.std.proofs.Common.{arith, ◌∙◌}
use Rattle.spe_journal.proofs.ChecksumLemmas.{sum_below-first, sum_below-all}
use Rattle.spe_journal.proofs.record.checksum.Goals as goal

pub loop-at-init : goal.loop-at-init
loop-at-init c = record { within = omega arith; total = sum_below-all c.args.nonce c.args.page.now }

pub loop-at-preserved : goal.loop-at-preserved
loop-at-preserved c = record { within = omega arith; total = sum_below-first c.args.page.now c.loop-at.sum c.loop-at.at c.from-byte.result c.loop-at-test.true c.from-byte.ensures ∙ c.loop-at.invariant.total }
