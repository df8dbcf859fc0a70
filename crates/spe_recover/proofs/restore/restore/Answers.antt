use Rattle.spe_model.specs.Journal.{Saved}
use Rattle.spe_model.specs.Rollback.{write_of}
use Rattle.spe_recover.proofs.RestoreLemmas.{told_stays, page_stays}
use Rattle.spe_recover.proofs.restore.restore.Goals as goal

pub returns-clause-stays : goal.returns-clause-stays
returns-clause-stays g c =
    let saved : Saved = record { page = c.args.saved.now.page; content = c.args.saved.now.content.now } in
    told_stays _ _ (write_of c.args.page_size saved) (page_stays c.args.page_size saved) c.in_ok-write_page.ensures.written
