use Rattle.spe_recover.proofs.ScanLemmas.{scanned}
use Rattle.spe_recover.proofs.scan.scan.Goals as goal

pub returns-clause-seen : goal.returns-clause-seen
returns-clause-seen g c = scanned _ c.args.page_size _ _ c.nothing_seen-seen.ensures.held c.nothing_seen-seen.ensures.rest c.in_ok-scan_all.ensures.notes
