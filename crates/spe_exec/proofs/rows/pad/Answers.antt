use Rattle.std.proofs.Common.{◌∙◌, arith}
use Rattle.spe_exec.proofs.RowsLemmas.{padded_more}
use Rattle.spe_exec.proofs.rows.pad.Goals as goal

pub loop-values-preserved : goal.loop-values-preserved
loop-values-preserved c =
    padded_more c.loop-values.values.items c.push.new.self.items c.args.count (omega (arith, c.len.ensures, c.loop-values-test.true)) c.in_ok-push.ensures.items ∙ c.loop-values.invariant
