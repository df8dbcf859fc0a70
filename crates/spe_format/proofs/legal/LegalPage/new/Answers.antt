use Rattle.spe_format.proofs.LegalLemmas.{legal_shown}
use Rattle.spe_format.proofs.legal.LegalPage.new.Goals as goal

pub invariant_of-result : goal.invariant_of-result
invariant_of-result c = (legal_shown _ c.args.at c.in-Ok.view (rw c.split_at.ensures.front at c.in_ok-check_page.ensures) c.in-Ok.ensures.legal).0

pub returns-in-Ok : goal.returns-in-Ok
returns-in-Ok c = (legal_shown _ c.args.at c.in-Ok.view (rw c.split_at.ensures.front at c.in_ok-check_page.ensures) c.in-Ok.ensures.legal).1
