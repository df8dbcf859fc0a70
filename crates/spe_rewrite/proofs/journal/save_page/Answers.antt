use Rattle.spe_rewrite.proofs.SaveLemmas.{journal_keeps}
use Rattle.spe_rewrite.proofs.journal.save_page.Goals as goal

pub returns-clause-keeps : goal.returns-clause-keeps
returns-clause-keeps g c = journal_keeps (g.D.Disk.told c.args.disk.now) _ _ _ (rw c.in_ok-read_page.ensures.same at c.in_ok-write_at.ensures.written)
