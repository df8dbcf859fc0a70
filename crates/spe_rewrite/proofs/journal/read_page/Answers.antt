use Rattle.std.proofs.Common.{refl}
use Rattle.spe_rewrite.proofs.SaveLemmas.{page_read}
use Rattle.spe_rewrite.proofs.journal.read_page.Goals as goal

pub returns-clause-page : goal.returns-clause-page
returns-clause-page g c =
    page_read (g.D.Disk.told c.args.disk.now) c.args.number _ _ _ _ c.requires.numbered (rw c.from.ensures refl) c.requires.sized c.requires.within c.in_ok-read_at.ensures.bytes
