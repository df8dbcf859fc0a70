use Rattle.spe_rewrite.proofs.SaveLemmas.{journal_keeps}
use Rattle.spe_rewrite.proofs.journal.write_head.Goals as goal

pub returns-clause-keeps : goal.returns-clause-keeps
returns-clause-keeps g c = journal_keeps (g.D.Disk.told c.args.disk.now) _ 0 _ c.in_ok-write_at.ensures.written
