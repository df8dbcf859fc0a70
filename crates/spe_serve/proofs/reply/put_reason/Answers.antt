use Rattle.std.proofs.Common.{ap}
use Rattle.spe_serve.specs.Reply.{reason}
use Rattle.spe_serve.proofs.TextLemmas.{appended}
use Rattle.spe_serve.proofs.reply.put_reason.Goals as goal

pub returns-in_ok-extend_from_slice-in-JournalPage : goal.returns-in_ok-extend_from_slice-in-JournalPage
returns-in_ok-extend_from_slice-in-JournalPage c =
    appended c.put_pair.result _ _ _ _ _ _ c.in_ok-extend_from_slice-in-JournalPage.ensures.items (ap reason c.in-JournalPage.is)
    (rw (c.from-in-JournalPage.ensures, c.from-in-JournalPage-2.ensures) at c.put_pair.ensures)
