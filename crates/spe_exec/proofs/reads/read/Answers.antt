use Rattle.spe_exec.proofs.InsideLemmas.{misses_inside}
use Rattle.spe_exec.proofs.reads.read.Goals as goal

pub returns-clause-inside : goal.returns-clause-inside
returns-clause-inside g c = misses_inside g.S.Pages c.args.space.now c.reply.new.space c.args.catalog.now c.args.statement.now c.reply.result c.reply.ensures.page_out
