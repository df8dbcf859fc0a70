use Rattle.spe_store.specs.Event.{seen_in}
use Rattle.spe_session.specs.Pages.{laid_in}
use Rattle.spe_session.proofs.FrontLemmas.{kept_front}
use Rattle.spe_session.proofs.PageLemmas.{laid_none, shown_of}
use Rattle.spe_session.proofs.pager.Pager.show.Goals as goal

pub returns-clause-shown : goal.returns-clause-shown
returns-clause-shown g c =
    let s = c.args.self.now in
    let is = c.if-copy_kept.false in
    shown_of c.read_below.result c.args.page c.read_below.new.buf (seen_in s.pass.done s.pass.id) _ (laid_in s.store.count s.pages s.size s.dirty)
    (laid_none s.store.count s.pages s.size s.dirty c.args.page (c.copy_kept.ensures.put is) (c.copy_kept.ensures.below is)) c.read_below.ensures.read

pub returns-clause-front : goal.returns-clause-front
returns-clause-front g c = kept_front c.read_below.result c.args.page c.read_below.new.self.clean c.read_below.new.buf c.read_below.ensures.kept
