use Rattle.spe_recover.proofs.SettledLemmas.{left_settled, left_pages}
use Rattle.spe_recover.proofs.recovery.recover.Goals as goal

pub returns-clause-leaves : goal.returns-clause-leaves
returns-clause-leaves g c =
    left_pages (g.D.Disk.told c.args.disk.now) _ c.rollback_keeps.ensures.keeps c.rollback_keeps.ensures.covered c.recover_files.ensures.cut

pub returns-clause-settled : goal.returns-clause-settled
returns-clause-settled g c =
    left_settled (g.D.Disk.told c.args.disk.now) _ c.recover_files.result c.rollback_keeps.ensures.keeps c.rollback_restores.ensures.empties
    c.rollback_restores.ensures.restores c.recovered_pages.ensures.headed c.recovered_pages.ensures.whole
    c.recover_files.ensures.pages c.recover_files.ensures.page_size c.recover_files.ensures.reserved c.recover_files.ensures.node c.recover_files.ensures.made c.recover_files.ensures.cut
