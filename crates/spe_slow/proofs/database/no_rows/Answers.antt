use Rattle.spe_slow.proofs.TablesLemmas.{no_rows_more}
use Rattle.spe_slow.proofs.database.no_rows.Goals as goal

pub loop-preserved : goal.loop-preserved
loop-preserved c = rw c.in_ok-push.ensures.items (no_rows_more c.loop.rows.items c.new.result c.loop.counter c.new.ensures.empty c.loop.invariant)
