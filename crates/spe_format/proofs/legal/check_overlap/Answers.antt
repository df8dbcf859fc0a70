use Rattle.spe_format.proofs.OrderLemmas.{falls_layout}
use Rattle.spe_format.proofs.legal.check_overlap.Goals as goal

pub returns-then-order : goal.returns-then-order
returns-then-order c = falls_layout _ c.args.order c.requires.order c.if-order.true
